use Rattle.std.proofs.Common.{arith}
use Rattle.std.proofs.lemmas.Grind.{common_steps}
use Rattle.break_finder.proofs.KeptLaws.{added}
use Rattle.break_finder.proofs.carry.add_break_tag.Goals as goal

pub returns : goal.returns
returns c = grind (arith, common_steps, added)
