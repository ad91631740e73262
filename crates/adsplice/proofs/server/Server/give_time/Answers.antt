use Rattle.std.proofs.Common.{arith, inr, refl}
use Rattle.std.proofs.lemmas.Grind.{common_steps}
use Rattle.adsplice.proofs.Serving.{keep_served, others_noted, settled_noted, settled_none}
use Rattle.adsplice.proofs.server.Server.give_time.Goals as goal

pub returns-then-is_err-clause-time : goal.returns-then-is_err-clause-time
returns-then-is_err-clause-time c = record { until = c.self.inside.opened.now; last = inr c.close.ensures.closed.gone }

pub returns-then-is_err-clause-settled : goal.returns-then-is_err-clause-settled
returns-then-is_err-clause-settled c =
    rw (← c.self.view_is) (settled_noted c.args.place c.self.inside.clients c.give_time.new.self c.close.new.self c.args.connections.now c.close.new.connections
    (keep_served _ c.self.inside.clients c.give_time.new.self c.give_time.ensures.rest (others_noted _ _ _ _ _ c.give_time.result c.give_time.ensures.ok c.give_time.ensures.err))
    (grind (arith, common_steps)) (grind (arith, common_steps)) c.close.ensures.closed)

pub returns-else-is_err-clause-settled : goal.returns-else-is_err-clause-settled
returns-else-is_err-clause-settled c =
    rw (← c.self.view_is) (settled_none c.args.place c.self.inside.clients c.give_time.new.self c.args.connections.now c.args.connections.now
    (keep_served _ c.self.inside.clients c.give_time.new.self c.give_time.ensures.rest (others_noted _ _ _ _ _ c.give_time.result c.give_time.ensures.ok c.give_time.ensures.err))
    (grind (arith, common_steps)) (grind (arith, common_steps)) refl)
