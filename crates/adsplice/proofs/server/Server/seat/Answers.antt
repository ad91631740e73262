use Rattle.connections.specs.Table.{arrival}
use Rattle.connections.proofs.Leading.{by_one, and_then}
use Rattle.adsplice.proofs.server.Server.seat.Goals as goal

pub returns-clause-time : goal.returns-clause-time
returns-clause-time c = (_, c.give_time.ensures.time)

pub returns-clause-run : goal.returns-clause-run
returns-clause-run c =
    and_then _ _ _ c.seat_for_one.ensures.run (and_then _ _ _ (by_one _ _ (arrival c.in_ok-seat.seat) c.insert.ensures) c.give_time.ensures.run)
