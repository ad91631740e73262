use Rattle.live_channel.proofs.Owed.{owed_playlists_succeed}
use Rattle.live_channel.proofs.laws.live_playlists_succeed.Goals as goal

pub returns : goal.returns
returns c = owed_playlists_succeed
