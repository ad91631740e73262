use Rattle.connections.proofs.Served.{served}
use Rattle.connections.proofs.laws.connections_are_served.Goals as goal

pub returns : goal.returns
returns c = served
