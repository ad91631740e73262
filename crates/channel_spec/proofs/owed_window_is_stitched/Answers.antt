use Rattle.channel_spec.proofs.OwedLaws.{window_is_stitched}
use Rattle.channel_spec.proofs.owed_window_is_stitched.Goals as goal

pub returns : goal.returns
returns c = window_is_stitched
