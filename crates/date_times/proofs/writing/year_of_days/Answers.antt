use Rattle.date_times.proofs.DividedDates.{divided_year}
use Rattle.date_times.proofs.writing.year_of_days.Goals as goal

pub returns-clause-value : goal.returns-clause-value
returns-clause-value c = divided_year c.args.days c.if-days-lt-DAYS_TO_1901.false c.if-days-ge-DAYS_TO_2100.false
