use Rattle.std.proofs.Common.{arith, inr, refl}
use Rattle.std.proofs.lemmas.Grind.{common_steps}
use Rattle.adsplice.proofs.Serving.{keep_short, others_put, settled_noted, settled_none}
use Rattle.adsplice.proofs.server.Server.wait_for_room.Goals as goal

pub returns-then-is_err-clause-waits : goal.returns-then-is_err-clause-waits
returns-then-is_err-clause-waits c = record { until = c.self.inside.opened.now; last = inr c.close.ensures.closed.gone }

pub returns-then-is_err-clause-settled : goal.returns-then-is_err-clause-settled
returns-then-is_err-clause-settled c =
    rw (← c.self.view_is) (settled_noted c.args.place c.self.inside.clients c.await_room.new.self c.close.new.self c.args.connections.now c.close.new.connections
    (keep_short _ c.self.inside.clients c.await_room.new.self c.await_room.ensures.rest (others_put _ _ _ _ c.await_room.result c.await_room.ensures.ok c.await_room.ensures.err))
    (grind (arith, common_steps)) (grind (arith, common_steps)) c.close.ensures.closed)

pub returns-else-is_err-clause-settled : goal.returns-else-is_err-clause-settled
returns-else-is_err-clause-settled c =
    rw (← c.self.view_is) (settled_none c.args.place c.self.inside.clients c.await_room.new.self c.args.connections.now c.args.connections.now
    (keep_short _ c.self.inside.clients c.await_room.new.self c.await_room.ensures.rest (others_put _ _ _ _ c.await_room.result c.await_room.ensures.ok c.await_room.ensures.err))
    (grind (arith, common_steps)) (grind (arith, common_steps)) refl)
