use Rattle.connections.proofs.Sent.{requests_are_heard}
use Rattle.connections.proofs.laws.requests_are_heard.Goals as goal

pub returns : goal.returns
returns c = requests_are_heard
