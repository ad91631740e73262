use Rattle.std.proofs.Common.{◌++◌, codes, ap, ◌∙◌}
use Rattle.http_messages.specs.Replies.{crlf, reply_body, content_type_line, allow_line, length_line, status_line}
use Rattle.http_messages.proofs.reply_head.reply_head_of.Goals as goal

pub returns : goal.returns
returns c =
    let r = c.args.reply.now in
    c.push_str-2.ensures.bytes
    ∙ ap (λ h. h ++ crlf) (c.push_str.ensures.bytes
    ∙ ap (λ h. h ++ (codes "Connection: close" ++ crlf)) (c.push_content_length_field.ensures.bytes
    ∙ ap (λ b. c.push_allow_field.new.head.bytes ++ length_line r.status b) c.body.ensures
    ∙ ap (λ h. h ++ length_line r.status (reply_body r)) (c.push_allow_field.ensures.bytes
    ∙ ap (λ h. h ++ allow_line r.allow) (c.push_content_type_field.ensures.bytes
    ∙ ap (λ h. h ++ content_type_line r.content) (c.push_http_status_line.ensures.bytes
    ∙ ap (λ h. h ++ status_line r.status) c.new-head.ensures)))))
