use Rattle.connections.proofs.Sent.{replies_are_sent}
use Rattle.connections.proofs.laws.replies_are_sent.Goals as goal

pub returns : goal.returns
returns c = replies_are_sent
