use Rattle.connections.specs.Turns.{MovedEach}
use Rattle.connections.proofs.turns.drain.Given as goal

abbrev pub invariant-loop-index : goal.invariant-loop-index
invariant-loop-index g l = MovedEach l.index (g.T.Incoming.stand l.fn.device).calls (g.T.Incoming.stand l.device).calls
