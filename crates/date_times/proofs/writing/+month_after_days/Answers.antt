use Rattle.std.proofs.Common.{sym, arith}
use Rattle.std.proofs.lemmas.Grind.{common_steps}
use Rattle.date_times.proofs.WalkedDates.{month_none, month_stop, month_more}
use Rattle.date_times.proofs.writing.+month_after_days.Goals as goal

pub returns-then-turns-eq0-clause-value : goal.returns-then-turns-eq0-clause-value
returns-then-turns-eq0-clause-value t c = sym (month_none c.args.turns c.args.year c.args.month c.args.days c.if-turns-eq0.true)

pub returns-then-days-calendar_days_in_month-clause-value : goal.returns-then-days-calendar_days_in_month-clause-value
returns-then-days-calendar_days_in_month-clause-value t c = sym (month_stop c.args.turns c.args.year c.args.month c.args.days (rw c.calendar_days_in_month.ensures at c.if-days-calendar_days_in_month.true))

pub returns-clause-value : goal.returns-clause-value
returns-clause-value t c = grind (arith, common_steps, month_more)
