use Rattle.std.proofs.Common.{◌≡◌, ℕ, rules, arith, sym, subst, ◌∙◌}
use Rattle.std.proofs.lemmas.Grind.{common_steps}
use Rattle.adsplice.specs.Inner.Serving.{OthersStay}
use Rattle.adsplice.proofs.Elsewhere.{others_had}
use Rattle.adsplice.proofs.Serving.{had_turn, had_nobody}
use Rattle.adsplice.proofs.clients.Clients.give_turn.Goals as goal

pub returns-in_default-seat-clause-turn : goal.returns-in_default-seat-clause-turn
returns-in_default-seat-clause-turn c =
    had_nobody _ _ _ c.args.call.now c.place-place.result c.args.self.now.at c.self.inside.at.items c.in-Some.seat.now c.args.connections.now
    (search rules) (grind (arith, common_steps)) (grind (arith, common_steps)) (grind (arith, common_steps))

pub returns-clause-turn : goal.returns-clause-turn
returns-clause-turn c =
    had_turn _ _ _ c.args.call.now c.place-place.result c.args.self.now.at c.self.inside.at.items c.in-Some-seat.client c.take_turn-turn.new.self c.args.connections.now c.take_turn-turn.new.connections c.take_turn-turn.result
    (search rules) (grind (arith, common_steps)) (grind (arith, common_steps)) (search rules) (search rules) (search rules) c.take_turn-turn.ensures.turn c.take_turn-turn.ensures.full c.take_turn-turn.ensures.passed (grind (arith, common_steps))

pub returns-clause-others : goal.returns-clause-others
returns-clause-others c =
    let its : c.in-Some-seat.client.place ≡ c.args.call.now = sym c.place.ensures ∙ (c.if-place.false ∙ c.place-place.ensures) in
    subst (λ (n : ℕ). OthersStay n c.args.connections.now c.take_turn-turn.new.connections) its
    (others_had _ _ c.in-Some-seat.client.place _ _ c.args.connections.now c.take_turn-turn.new.connections c.take_turn-turn.result c.in-Some-seat.client.is_ending c.take_turn-turn.ensures.turn c.take_turn-turn.ensures.passed)
