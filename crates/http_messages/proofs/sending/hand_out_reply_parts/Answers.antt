use Rattle.http_messages.proofs.Sent.{taken_both, front_of_both}
use Rattle.http_messages.proofs.sending.hand_out_reply_parts.Goals as goal

pub returns-clause-ok : goal.returns-clause-ok
returns-clause-ok g c = taken_both c.hand_out-2.result _ _ _ c.args.head.now c.args.body.now c.in_ok-hand_out.ensures.ok c.hand_out-2.ensures.ok

pub returns-clause-err : goal.returns-clause-err
returns-clause-err g c = front_of_both c.hand_out-2.result _ _ _ c.args.head.now c.args.body.now c.in_ok-hand_out.ensures.ok c.hand_out-2.ensures.err
