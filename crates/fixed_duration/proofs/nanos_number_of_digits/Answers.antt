use Rattle.std.proofs.Common.{arith}
use Rattle.fixed_duration.proofs.Digits.{value_more, digit_in, next_power, small_power}
use Rattle.fixed_duration.proofs.nanos_number_of_digits.Goals as goal

pub loop-digit-preserved : goal.loop-digit-preserved
loop-digit-preserved c =
    let digit = digit_in c.args.digits.now c.loop-digit.digit-index c.requires.digits (omega arith) in
    let e = value_more c.args.digits.now c.loop-digit.digit-index digit (omega arith) in
    let power = next_power c.loop-digit.digit-index in
    record { value = omega (arith, e); below = omega (arith, power, digit.1) }

pub overflow_mul-value : goal.overflow_mul-value
overflow_mul-value c = let power = small_power c.loop-digit.digit-index (omega arith) in omega (arith, power)

pub overflow_add-value : goal.overflow_add-value
overflow_add-value c = let power = small_power c.loop-digit.digit-index (omega arith) in omega (arith, power)
