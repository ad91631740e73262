use Rattle.connections.specs.Inner.Going.{RoundsGoOn}
use Rattle.connections.specs.Runs.{HasRun}
use Rattle.adsplice.proofs.live.serve_all_sockets.Given as goal

abbrev pub invariant-loop : goal.invariant-loop
invariant-loop l = HasRun l.fn.connections l.connections × RoundsGoOn l.fn.server.line l.server.line
