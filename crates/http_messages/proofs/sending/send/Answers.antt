use Rattle.std.proofs.Common.{subst, arith}
use Rattle.std.specs.Prelude.{OnErr}
use Rattle.byte_streams.specs.Stands.{FailedAfterFront}
use Rattle.http_messages.proofs.Sent.{same_text}
use Rattle.http_messages.proofs.sending.send.Goals as goal

pub returns-clause-ok : goal.returns-clause-ok
returns-clause-ok g c = grind (arith, same_text)

pub returns-clause-err : goal.returns-clause-err
returns-clause-err g c =
    subst (λ l. OnErr c.hand_out_reply_at_once.result (FailedAfterFront (g.K.Sink.stand c.args.sink.now) (g.K.Sink.stand c.hand_out_reply_at_once.new.sink) l))
    (same_text c.as_bytes.result.now c.as_str.result.now c.reply_head_of-head.result.bytes c.reply_body_sent-body.result.now c.args.with_body c.args.reply.now c.as_bytes.ensures.value c.as_str.ensures.value c.reply_head_of-head.ensures c.reply_body_sent-body.ensures)
    c.hand_out_reply_at_once.ensures.err
