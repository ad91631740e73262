use Rattle.std.proofs.Common.{refl, sym, ap, ◌∙◌, arith}
use Rattle.std.specs.Prelude.{Some, option_copied}
use Rattle.std.proofs.lemmas.Grind.{common_steps}
use Rattle.http_messages.proofs.HeadReads.{too_many, is_token_of}
use Rattle.http_messages.proofs.head.read_request_head.Goals as goal

pub returns-then-request-gt-MAX_FIELDS : goal.returns-then-request-gt-MAX_FIELDS
returns-then-request-gt-MAX_FIELDS c =
    let p = rw c.in-Complete.is at c.in-Ok.ensures.complete in
    too_many c.args.bytes.now c.parse.new.self c.in-Complete.len (omega (arith, c.if-request-gt-MAX_FIELDS.true)) p

pub returns-in-Err-Invalid : goal.returns-in-Err-Invalid
returns-in-Err-Invalid c more h rest b =
    let p = rw c.in-Complete.is at c.in-Ok.ensures.complete in
    let i = rw c.in-Err-Invalid.field-0-is at c.in-Err-Invalid.ensures.invalid in
    absurd (i.0 refl (is_token_of c.args.bytes.now c.parse.new.self c.in-Complete.len c.as_bytes.result.now p
    (ap option_copied c.in-Some-Some.is-0 ∙ ap Some (sym c.as_bytes.ensures.value))))

pub returns : goal.returns
returns c = grind (arith, common_steps)
