use Rattle.std.proofs.Common.{◌≡◌, false}
use Rattle.connections.specs.Arrivals.{is_asking}
use Rattle.connections.specs.Clients.{AreSent}
use Rattle.connections.specs.Table.{at}
use Rattle.connections.specs.Runs.{HasRun}
use Rattle.connections.specs.Turns.{MovedEach, HasSpoken}
use Rattle.connections.proofs.turns.speak.Given as goal

abbrev pub invariant-loop-index : goal.invariant-loop-index
invariant-loop-index g l = record {
  moved : MovedEach l.index (g.T.Outgoing.stand l.fn.device).calls (g.T.Outgoing.stand l.device).calls;
  spoken : HasSpoken (g.T.Outgoing.stand l.fn.device) (g.T.Outgoing.stand l.device) l.fn.seat l.fn.connections l.connections;
  sent : AreSent l.index l.fn.seat l.fn.connections l.connections;
  asked : is_asking (at l.fn.connections l.fn.seat) ≡ false → is_asking (at l.connections l.fn.seat) ≡ false;
  run : HasRun l.fn.connections l.connections;
}
