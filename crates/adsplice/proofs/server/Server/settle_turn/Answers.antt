use Rattle.std.proofs.Common.{arith, ◌∙◌}
use Rattle.std.proofs.lemmas.Grind.{common_steps}
use Rattle.adsplice.proofs.Serving.{comes_last_since, if_any, keep_took, noted_since, others_taken, settled_both, settled_none, was_answered}
use Rattle.adsplice.proofs.server.Server.settle_turn.Goals as goal

pub returns-clause-settled : goal.returns-clause-settled
returns-clause-settled c =
    settled_both _ c.args.self.now c.settle.new.self c.note_reply.new.self c.args.connections.now c.settle.new.connections c.time_reply.new.connections c.settle.ensures.settled
    (settled_both _ c.settle.new.self c.time_reply.new.self c.note_reply.new.self c.settle.new.connections c.time_reply.new.connections c.time_reply.new.connections c.time_reply.ensures.settled
    (settled_none _ c.time_reply.new.self c.note_reply.new.self c.time_reply.new.connections c.time_reply.new.connections
    (keep_took _ c.time_reply.new.self c.note_reply.new.self c.note_reply.ensures.rest (others_taken c.args.turned.now.place _ c.time_reply.new.self.took c.note_reply.new.self.took c.note_reply.ensures.took (λ e. grind (arith, common_steps, c.note_reply.ensures.waits e))))
    (grind (arith, common_steps)) (grind (arith, common_steps)) (grind (arith, common_steps))))

pub returns-clause-took : goal.returns-clause-took
returns-clause-took c = if_any c.args.turned.now.turn _ (λ taken.
    let noted = c.note_reply.ensures.took taken in (
      noted.0,
      noted_since _ noted.0 c.args.self.now.took c.time_reply.new.self.took c.note_reply.new.self.took
          (c.time_reply.ensures.settled.others.took ∙ c.settle.ensures.settled.others.took) noted.1,
    ))

pub returns-clause-anew : goal.returns-clause-anew
returns-clause-anew c = if_any c.args.turned.now.turn _ (λ asking answered.
    let last = c.time_reply.ensures.anew asking (was_answered _ c.settle.new.connections c.time_reply.new.connections c.time_reply.ensures.settled.leaves answered) in
    grind (arith, common_steps, c.note_reply.ensures.rest, comes_last_since _ c.args.self.now.served c.settle.new.self.served c.time_reply.new.self.served c.time_reply.new.self.at c.settle.ensures.settled.others.served last))
