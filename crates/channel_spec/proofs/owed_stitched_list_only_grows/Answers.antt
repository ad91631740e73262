use Rattle.channel_spec.proofs.EachWindow.{only_grows}
use Rattle.channel_spec.proofs.owed_stitched_list_only_grows.Goals as goal

pub returns : goal.returns
returns c = only_grows
