use Rattle.std.proofs.Common.{arith}
use Rattle.std.proofs.lemmas.Grind.{common_steps}
use Rattle.date_times.proofs.Chains.{grown2, grown4, as_text}
use Rattle.date_times.proofs.WalkedDates.{date_parts}
use Rattle.date_times.proofs.writing.put_calendar_date.Goals as goal

pub returns : goal.returns
returns c = grind (arith, common_steps, as_text, date_parts, grown2, grown4)
