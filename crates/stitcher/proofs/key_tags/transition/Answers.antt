use Rattle.std.proofs.Common.{arith}
use Rattle.std.proofs.lemmas.Grind.{common_steps}
use Rattle.stitcher.proofs.TagLaws.{transition_leads}
use Rattle.stitcher.proofs.key_tags.transition.Goals as goal

pub returns-clause-leads : goal.returns-clause-leads
returns-clause-leads c old new = grind (arith, common_steps, transition_leads)
