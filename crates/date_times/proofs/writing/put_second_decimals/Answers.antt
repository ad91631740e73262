use Rattle.std.proofs.Common.{arith}
use Rattle.std.proofs.lemmas.Bool.{cond-false, ne_eqb}
use Rattle.std.proofs.lemmas.Grind.{common_steps}
use Rattle.date_times.proofs.Chains.{grown3, as_text}
use Rattle.date_times.proofs.WrittenDigits.{in_nine}
use Rattle.date_times.proofs.writing.put_second_decimals.Goals as goal

pub returns-clause-text : goal.returns-clause-text
returns-clause-text c = grind (arith, common_steps, as_text, cond-false, grown3, in_nine, ne_eqb)
