use Rattle.playlist_kept.specs.Kept.{playlist_in}
use Rattle.live_channel.proofs.Taking.{read_as}
use Rattle.live_channel.proofs.refresh.live_playlist_after.Goals as goal

pub returns-clause-ok : goal.returns-clause-ok
returns-clause-ok c = read_as c.args.base.now c.args.bytes.now (playlist_in c.in_ok-read.field-0) c.in_ok-read.ensures.answer
