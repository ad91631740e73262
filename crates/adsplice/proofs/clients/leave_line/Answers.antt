use Rattle.connections.specs.Lines.{leaves}
use Rattle.connections.proofs.Calling.{line_goes_by_one}
use Rattle.adsplice.proofs.clients.leave_line.Goals as goal

pub returns-clause-goes_on : goal.returns-clause-goes_on
returns-clause-goes_on c = line_goes_by_one c.args.line.now _ (leaves c.args.place) c.leave.ensures
