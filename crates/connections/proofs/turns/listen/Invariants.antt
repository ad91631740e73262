use Rattle.std.proofs.Common.{◌≡◌, true}
use Rattle.connections.specs.Table.{at}
use Rattle.connections.specs.Arrivals.{is_asking}
use Rattle.connections.specs.Runs.{HasRun}
use Rattle.connections.specs.Turns.{AreRead, MovedEach, HasListened}
use Rattle.connections.proofs.turns.listen.Given as goal

abbrev pub invariant-loop-index : goal.invariant-loop-index
invariant-loop-index g l = record {
  moved : MovedEach l.index (g.T.Incoming.stand l.fn.device).calls (g.T.Incoming.stand l.device).calls;
  listened : HasListened (g.T.Incoming.stand l.fn.device) (g.T.Incoming.stand l.device) l.fn.seat l.fn.connections l.connections;
  asking : is_asking (at l.connections l.fn.seat) ≡ true;
  read : AreRead l.index l.fn.seat l.fn.connections l.connections;
  run : HasRun l.fn.connections l.connections;
}
