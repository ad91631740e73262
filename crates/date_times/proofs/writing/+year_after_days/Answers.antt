use Rattle.std.proofs.Common.{sym, arith}
use Rattle.std.proofs.lemmas.Grind.{common_steps}
use Rattle.date_times.proofs.WalkedDates.{year_none, year_stop, year_more}
use Rattle.date_times.proofs.writing.+year_after_days.Goals as goal

pub returns-then-turns-eq0-clause-value : goal.returns-then-turns-eq0-clause-value
returns-then-turns-eq0-clause-value t c = sym (year_none c.args.turns c.args.year c.args.days c.if-turns-eq0.true)

pub returns-then-days-calendar_days_in_year-clause-value : goal.returns-then-days-calendar_days_in_year-clause-value
returns-then-days-calendar_days_in_year-clause-value t c = sym (year_stop c.args.turns c.args.year c.args.days (rw c.calendar_days_in_year.ensures at c.if-days-calendar_days_in_year.true))

pub returns-clause-value : goal.returns-clause-value
returns-clause-value t c = grind (arith, common_steps, year_more)
