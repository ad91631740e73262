use Rattle.connections.proofs.Calling.{line_is_called}
use Rattle.adsplice.proofs.clients.next_call.Goals as goal

pub returns-clause-called : goal.returns-clause-called
returns-clause-called c = line_is_called c.args.line.now _ c.call_next.ensures.line
