use Rattle.date_times.proofs.writing.+year_after_days.Given as goal

abbrev pub decreases-year_after_days : goal.decreases-year_after_days
decreases-year_after_days l = l.turns
