use Rattle.std.proofs.Common.{◌++◌, codes, ap, sym, ◌∙◌}
use Rattle.http_messages.specs.Replies.{crlf, content_type_line}
use Rattle.http_messages.proofs.reply_head.push_content_type_field.Goals as goal

pub returns-in-Some-clause-bytes : goal.returns-in-Some-clause-bytes
returns-in-Some-clause-bytes c =
    let before = c.args.head.now.bytes in
    c.push_header_field.ensures
    ∙ ap (λ v. before ++ (codes "Content-Type: " ++ v ++ crlf)) c.http_media_type_text.ensures.value
    ∙ ap (λ o. before ++ content_type_line o) (sym c.in-Some.is)
