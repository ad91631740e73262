use Rattle.stitcher.proofs.TagLaws.{transition_leads}
use Rattle.stitcher.proofs.laws.transition_leads.Goals as goal

pub returns : goal.returns
returns c = transition_leads
