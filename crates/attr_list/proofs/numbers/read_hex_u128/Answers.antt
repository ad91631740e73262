use Rattle.std.proofs.Common.{◌≤◌, length, arith}
use Rattle.std.proofs.lemmas.Grind.{common_steps}
use Rattle.std.proofs.lemmas.Int.Digits.{digits_value_more}
use Rattle.std.proofs.lemmas.List.Folds.{list_all_more}
use Rattle.attr_list.proofs.NumberLemmas.{hex_room}
use Rattle.attr_list.proofs.numbers.read_hex_u128.Goals as goal

pub overflow_mul-value : goal.overflow_mul-value
overflow_mul-value c =
    let few : length c.as_bytes-digits.result.now ≤ 32 = omega (arith, c.if-digits-gt-MAX_HEX_DIGITS.false) in
    let room = hex_room c.as_bytes-digits.result.now c.loop-digit.digit-index c.loop-digit.value c.loop-digit-test.true few c.loop-digit.invariant.value c.loop-digit.invariant.digits in
    omega (arith, room)

pub overflow_add-value : goal.overflow_add-value
overflow_add-value c =
    let few : length c.as_bytes-digits.result.now ≤ 32 = omega (arith, c.if-digits-gt-MAX_HEX_DIGITS.false) in
    let room = hex_room c.as_bytes-digits.result.now c.loop-digit.digit-index c.loop-digit.value c.loop-digit-test.true few c.loop-digit.invariant.value c.loop-digit.invariant.digits in
    let small = c.in-Some-hexadecimal_digit_number.ensures.below in
    omega (arith, room, small, c.from.ensures)

pub loop-digit-preserved : goal.loop-digit-preserved
loop-digit-preserved c = grind (arith, common_steps, list_all_more, digits_value_more)
