use Rattle.connections.proofs.Isolated.{clients_are_isolated}
use Rattle.connections.proofs.laws.clients_are_isolated.Goals as goal

pub returns : goal.returns
returns c = clients_are_isolated
