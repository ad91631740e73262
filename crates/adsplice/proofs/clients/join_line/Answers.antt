use Rattle.connections.proofs.Calling.{join_goes_on}
use Rattle.adsplice.proofs.clients.join_line.Goals as goal

pub returns-clause-goes_on : goal.returns-clause-goes_on
returns-clause-goes_on c = join_goes_on c.join.result c.args.line.now _ c.args.place c.args.channel c.join.ensures.ok c.join.ensures.err
