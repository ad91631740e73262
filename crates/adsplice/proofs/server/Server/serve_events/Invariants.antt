use Rattle.connections.specs.Inner.Going.{LineGoesOn}
use Rattle.connections.specs.Runs.{HasRun}
use Rattle.adsplice.proofs.server.Server.serve_events.Given as goal

abbrev pub invariant-loop-event : goal.invariant-loop-event
invariant-loop-event l = HasRun l.fn.connections l.connections × LineGoesOn l.fn.self.line l.self.line
