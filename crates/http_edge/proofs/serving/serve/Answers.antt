use Rattle.http_edge.proofs.Connections.{served_whole, served_front, replied_whole, replied_front}
use Rattle.http_edge.proofs.serving.serve.Goals as goal

pub returns-clause-ok : goal.returns-clause-ok
returns-clause-ok g c =
    served_whole _ _ _ _ c.in_ok-asked.asked c.args.edge.now c.reply_to.new.edge c.in_ok-answer.answer.reply c.in_ok-answer.answer.with_body
    c.in_ok-answer.ensures.ok c.put_edge_reply.result c.in_ok-asked.ensures.asked c.put_edge_reply.ensures.ok c.put_edge_reply.ensures.status

pub returns-clause-write : goal.returns-clause-write
returns-clause-write g c f =
    served_front _ _ _ _ c.in_ok-asked.asked c.args.edge.now c.reply_to.new.edge c.in_ok-answer.answer.reply c.in_ok-answer.answer.with_body
    c.in_ok-answer.ensures.ok c.put_edge_reply.result _ c.in_ok-asked.ensures.asked c.put_edge_reply.ensures.write f

pub returns-clause-whole : goal.returns-clause-whole
returns-clause-whole g c it h =
    replied_whole _ _ c.in_ok-asked.asked c.args.edge.now c.reply_to.new.edge c.in_ok-answer.answer.reply c.in_ok-answer.answer.with_body
    c.in_ok-answer.ensures.ok it (c.in_ok-asked.ensures.whole it h) c.put_edge_reply.result c.put_edge_reply.ensures.ok c.put_edge_reply.ensures.status

pub returns-clause-whole_front : goal.returns-clause-whole_front
returns-clause-whole_front g c it h f =
    replied_front _ _ c.in_ok-asked.asked c.args.edge.now c.reply_to.new.edge c.in_ok-answer.answer.reply c.in_ok-answer.answer.with_body
    c.in_ok-answer.ensures.ok it (c.in_ok-asked.ensures.whole it h) c.put_edge_reply.result _ c.put_edge_reply.ensures.write f
