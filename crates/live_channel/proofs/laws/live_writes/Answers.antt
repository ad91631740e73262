use Rattle.live_channel.proofs.Steps.{live_writes}
use Rattle.live_channel.proofs.laws.live_writes.Goals as goal

pub returns : goal.returns
returns c = live_writes
