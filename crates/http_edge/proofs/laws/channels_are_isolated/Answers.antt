use Rattle.http_edge.proofs.Isolated.{isolated}
use Rattle.http_edge.proofs.laws.channels_are_isolated.Goals as goal

pub returns : goal.returns
returns c = isolated
