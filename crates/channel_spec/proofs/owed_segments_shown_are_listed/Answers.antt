use Rattle.channel_spec.proofs.Listed.{shown_are_listed}
use Rattle.channel_spec.proofs.owed_segments_shown_are_listed.Goals as goal

pub returns : goal.returns
returns c = shown_are_listed
