use Rattle.std.proofs.Common.{arith}
use Rattle.std.proofs.lemmas.Grind.{common_steps}
use Rattle.break_finder.proofs.Staying.{stay_known, stay_unknown}
use Rattle.break_finder.proofs.knowledge.stay_in_break_of.Goals as goal

pub returns-in-Some : goal.returns-in-Some
returns-in-Some c instant = grind (arith, common_steps, stay_known)

pub returns-in-None : goal.returns-in-None
returns-in-None c instant = grind (arith, common_steps, stay_unknown)
