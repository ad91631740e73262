use Rattle.std.proofs.Common.{◌++◌, subst, sym}
use Rattle.http_messages.specs.Arriving.{IsArrived}
use Rattle.http_edge.specs.Served.{IsServed}
use Rattle.http_edge.proofs.Connections.{serves}
use Rattle.connections.specs.declared.conversation.Conversation.TheVariants.{Answering}
use Rattle.connections.specs.Conversing.{Goes}
use Rattle.connections.proofs.conversation.give_to_connection.Goals as goal

pub returns-in_ok-answer-in-Whole-clause-goes : goal.returns-in_ok-answer-in-Whole-clause-goes
returns-in_ok-answer-in-Whole-clause-goes c =
    let bytes = c.in-Asking.arriving ++ c.args.piece.now in
    let old = c.args.edge.now in
    let new = c.reply_to.new.edge in
    let reply = c.in_ok-answer-in-Whole.answer.reply in
    let with_body = c.in_ok-answer-in-Whole.answer.with_body in
    let status = c.as_u16-status.result in
    let asked = subst (IsArrived bytes) c.in-Whole.is c.in_ok-arriving.ensures in
    let served = serves bytes c.in-Whole.asked old new reply with_body status asked c.in_ok-answer-in-Whole.ensures.ok c.as_u16-status.ensures.value in
    subst (λ k. Goes k c.args.piece.now old new (Answering c.new-leaving.result status)) (sym c.in-Asking.is)
    (subst (λ text. IsServed bytes old new text status) (sym c.new-leaving.ensures) served)
