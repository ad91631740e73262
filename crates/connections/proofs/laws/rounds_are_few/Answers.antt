use Rattle.connections.proofs.Lined.{rounds_are_few}
use Rattle.connections.proofs.laws.rounds_are_few.Goals as goal

pub returns : goal.returns
returns c = rounds_are_few
