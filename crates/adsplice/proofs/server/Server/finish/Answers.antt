use Rattle.std.proofs.Common.{arith}
use Rattle.std.proofs.lemmas.Grind.{common_steps}
use Rattle.connections.specs.Limits.{ending_nanos}
use Rattle.adsplice.proofs.Serving.{keep_ended, others_noted, settled_ended, settled_left}
use Rattle.adsplice.proofs.server.Server.finish.Goals as goal

pub returns-in-Waits-clause-settled : goal.returns-in-Waits-clause-settled
returns-in-Waits-clause-settled c =
    rw (← c.self.view_is) (settled_ended c.args.place c.self.inside.clients _ c.watch.new.self c.args.connections.now c.leave.new.connections c.watch.new.connections
    (keep_ended c.args.place c.self.inside.clients c.stop_serving.new.self c.end-turn.new.self c.await_end.new.self c.stop_serving.ensures.lists c.end-turn.ensures.rest c.end-turn.ensures.others c.await_end.ensures.rest
    (others_noted c.args.place _ _ _ _ c.await_end.result c.await_end.ensures.ok c.await_end.ensures.err))
    (grind (arith, common_steps)) c.leave.ensures.leaves c.leave.ensures.left (grind (arith, common_steps)) c.watch.ensures.settled)

pub returns-in-Goes-clause-settled : goal.returns-in-Goes-clause-settled
returns-in-Goes-clause-settled c =
    rw (← c.self.view_is) (settled_ended c.args.place c.self.inside.clients _ c.watch-in-Goes.new.self c.args.connections.now c.leave.new.connections c.watch-in-Goes.new.connections
    (keep_ended c.args.place c.self.inside.clients c.stop_serving.new.self c.end-turn.new.self c.await_end.new.self c.stop_serving.ensures.lists c.end-turn.ensures.rest c.end-turn.ensures.others c.await_end.ensures.rest
    (others_noted c.args.place _ _ _ _ c.await_end.result c.await_end.ensures.ok c.await_end.ensures.err))
    (grind (arith, common_steps)) c.leave.ensures.leaves c.leave.ensures.left (grind (arith, common_steps)) c.watch-in-Goes.ensures.settled)

pub returns-in_default-clause-settled : goal.returns-in_default-clause-settled
returns-in_default-clause-settled c =
    let noted = others_noted c.args.place ending_nanos c.self.inside.opened.now c.end-turn.new.self.ending c.await_end.new.self.ending c.await_end.result c.await_end.ensures.ok c.await_end.ensures.err in
    rw (← c.self.view_is) (settled_left c.args.place c.self.inside.clients c.in_default.self c.close.new.self c.args.connections.now c.leave.new.connections c.close.new.connections
    (keep_ended c.args.place c.self.inside.clients c.stop_serving.new.self c.end-turn.new.self c.in_default.self c.stop_serving.ensures.lists c.end-turn.ensures.rest c.end-turn.ensures.others (grind (arith, common_steps)) (grind (arith, common_steps, noted)))
    (grind (arith, common_steps)) c.leave.ensures.leaves c.leave.ensures.left c.close.ensures.closed)
