use Rattle.std.proofs.Common.{rules, sym, ◌≡◌, ◌∙◌}
use Rattle.attr_list.specs.Numbers.{decimal_of}
use Rattle.playlist_model.specs.declared.FaultKind.TheVariants as fault
use Rattle.spec_words.specs.Outcomes.{or_fault, ◌>>=◌}
use Rattle.playlist_model.specs.Said.{stated_byte_range}
use Rattle.segment_state.proofs.Ranges.{decimal_byte_range, no_byte_range, byte_range_with_offset}
use Rattle.segment_state.proofs.tags.byte_range_tag_numbers.Goals as goal

pub returns-in-Ok : goal.returns-in-Ok
returns-in-Ok c = sym (decimal_byte_range c.args.text.now _ c.in-Ok.length c.in-Ok.ensures)

pub returns-in_default-split_once : goal.returns-in_default-split_once
returns-in_default-split_once c = sym (no_byte_range c.args.text.now _ c.read_decimal.result (search rules) c.read_decimal.ensures c.in_default.not-Ok)

pub returns-in_err-tag_decimal : goal.returns-in_err-tag_decimal
returns-in_err-tag_decimal c =
    let stated = byte_range_with_offset c.args.text.now c.in-Some.length.now c.in-Some.offset.now (search rules) (search rules) (search rules) in
    let here : c.from_residual.result ≡ (or_fault fault.BadRange (decimal_of c.in-Some.length.now) >>= λ length. or_fault fault.BadRange (decimal_of c.in-Some.offset.now) >>= stated_byte_range length) = search rules in
    here ∙ sym stated

pub returns-in_err-tag_decimal-2 : goal.returns-in_err-tag_decimal-2
returns-in_err-tag_decimal-2 c =
    let stated = byte_range_with_offset c.args.text.now c.in-Some.length.now c.in-Some.offset.now (search rules) (search rules) (search rules) in
    let here : c.from_residual-in_err-tag_decimal-2.result ≡ (or_fault fault.BadRange (decimal_of c.in-Some.length.now) >>= λ length. or_fault fault.BadRange (decimal_of c.in-Some.offset.now) >>= stated_byte_range length) = search rules in
    here ∙ sym stated

pub returns : goal.returns
returns c =
    let stated = byte_range_with_offset c.args.text.now c.in-Some.length.now c.in-Some.offset.now (search rules) (search rules) (search rules) in
    let here : c.byte_range_of_tag.result ≡ (or_fault fault.BadRange (decimal_of c.in-Some.length.now) >>= λ length. or_fault fault.BadRange (decimal_of c.in-Some.offset.now) >>= stated_byte_range length) = search rules in
    here ∙ sym stated
