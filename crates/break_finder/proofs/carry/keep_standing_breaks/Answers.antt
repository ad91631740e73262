use Rattle.std.proofs.Common.{arith}
use Rattle.std.proofs.lemmas.Grind.{common_steps}
use Rattle.indexmap.proofs.CallerLemmas.{filter-RetainsPairs}
use Rattle.break_finder.proofs.carry.keep_standing_breaks.Goals as goal

pub returns-clause-standing : goal.returns-clause-standing
returns-clause-standing c = grind (arith, common_steps, filter-RetainsPairs)
