use Rattle.channel_spec.proofs.EachWindow.{each_succeeds}
use Rattle.channel_spec.proofs.each_owed_playlist_succeeds.Goals as goal

pub returns : goal.returns
returns c = each_succeeds
