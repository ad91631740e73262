use Rattle.std.proofs.Common.{arith}
use Rattle.std.proofs.lemmas.Grind.{common_steps}
use Rattle.date_times.proofs.Chains.{grown2, as_text}
use Rattle.date_times.proofs.WrittenDigits.{in_table}
use Rattle.date_times.proofs.writing.put_two_date_digits.Goals as goal

pub returns : goal.returns
returns c = grind (arith, common_steps, as_text, grown2, in_table)
