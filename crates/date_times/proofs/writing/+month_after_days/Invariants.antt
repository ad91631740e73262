use Rattle.date_times.proofs.writing.+month_after_days.Given as goal

abbrev pub decreases-month_after_days : goal.decreases-month_after_days
decreases-month_after_days l = l.turns
