use Rattle.http_edge.proofs.Paths.{on_its_channel, leads_to_its_channel}
use Rattle.http_edge.proofs.laws.paths_are_of_their_channels.Goals as goal

pub returns-clause-on : goal.returns-clause-on
returns-clause-on c = on_its_channel

pub returns-clause-lead : goal.returns-clause-lead
returns-clause-lead c = leads_to_its_channel
