use Rattle.live_channel.proofs.Owed.{stitched_list_grows}
use Rattle.live_channel.proofs.laws.live_stitched_list_grows.Goals as goal

pub returns : goal.returns
returns c = stitched_list_grows
