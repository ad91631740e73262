use Rattle.std.proofs.Common.{◌≤◌, arith}
use Rattle.std.proofs.lemmas.Grind.{common_steps}
use Rattle.std.proofs.lemmas.Bool.Decides.{nat_tests}
use Rattle.attr_list.proofs.NumberLemmas.{decimal_room, value_more, digits_more}
use Rattle.attr_list.proofs.numbers.number_of_decimal_digits.Goals as goal

pub overflow_mul-value : goal.overflow_mul-value
overflow_mul-value c =
    let room = decimal_room c.args.digits.now c.loop-digit.digit-index c.loop-digit.value c.loop-digit-test.true c.requires c.loop-digit.invariant.value c.loop-digit.invariant.digits in
    omega (arith, room)

pub overflow_add-value : goal.overflow_add-value
overflow_add-value c =
    let room = decimal_room c.args.digits.now c.loop-digit.digit-index c.loop-digit.value c.loop-digit-test.true c.requires c.loop-digit.invariant.value c.loop-digit.invariant.digits in
    let digit = c.if-not-is_ascii_digit.ensures.value in
    let small : c.from.result ≤ 9 = grind (arith, nat_tests, digit, c.from.ensures) in
    omega (arith, room, small)

pub loop-digit-preserved : goal.loop-digit-preserved
loop-digit-preserved c = grind (arith, common_steps, digits_more, value_more)
