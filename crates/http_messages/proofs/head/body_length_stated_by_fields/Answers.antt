use Rattle.std.proofs.Common.{◌∙◌}
use Rattle.http_messages.proofs.Lengths.{says_one_at, goes_on_at, at_place}
use Rattle.http_messages.proofs.head.body_length_stated_by_fields.Goals as goal
use Rattle.http_messages.proofs.head.body_length_stated_by_fields.Goals.{then-is_header_field_named+else-any, else-is_header_field_named}

pub loop-field-preserved : goal.loop-field-preserved
loop-field-preserved c =
    let i = c.loop-field.field-index in
    let d = at_place c.args.fields.now i _ c.loop-field-test.true in
    let s = c.loop-field.invariant in
    elim c.if-is_header_field_named.branch [
      | then-is_header_field_named+else-any w ↦ says_one_at _ i _ _ _ _ _ d s w.if-any.false w.if-is_header_field_named.ensures (w.said-is ∙ w.message_body_of_length-said.ensures) w.any-is
      | else-is_header_field_named w ↦ goes_on_at _ i _ _ _ _ _ d s w.if-is_header_field_named.ensures w.said-is w.any-is
    ]
