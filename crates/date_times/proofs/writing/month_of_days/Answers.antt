use Rattle.std.proofs.Common.{arith}
use Rattle.std.proofs.lemmas.Grind.{common_steps}
use Rattle.date_times.proofs.DividedDates.{both, early_month, late_month, month_at, day_at}
use Rattle.date_times.proofs.writing.month_of_days.Goals as goal

pub returns-then-days-year_days-2-clause-value : goal.returns-then-days-year_days-2-clause-value
returns-then-days-year_days-2-clause-value c = grind (arith, common_steps, both, early_month)

pub returns-clause-value : goal.returns-clause-value
returns-clause-value c = grind (arith, common_steps, both, day_at, late_month, month_at)
