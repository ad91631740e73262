use Rattle.connections.specs.Table.{departure}
use Rattle.connections.proofs.Leading.{by_one}
use Rattle.connections.proofs.client.Client.leave.Goals as goal

pub returns-clause-run : goal.returns-clause-run
returns-clause-run g c = by_one c.args.connections.now c.remove.new.self (departure c.self.inside.seat) c.remove.ensures
