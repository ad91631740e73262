use Rattle.connections.specs.Inner.Going.{LineGoesOn}
use Rattle.connections.specs.Runs.{HasRun}
use Rattle.adsplice.proofs.server.Server.on_ready.Given as goal

abbrev pub invariant-loop : goal.invariant-loop
invariant-loop l = HasRun l.fn.connections l.connections × LineGoesOn l.fn.self.line l.self.line
