use Rattle.connections.proofs.Lined.{turns_are_shared}
use Rattle.connections.proofs.laws.turns_are_shared.Goals as goal

pub returns : goal.returns
returns c = turns_are_shared
