use Rattle.std.proofs.Common.{◌^◌, ◌*◌, ◌-◌, arith, ap, ◌∙◌, length}
use Rattle.std.specs.Str.Parse.{digits_value}
use Rattle.fixed_duration.proofs.Filled.{filled_value, filled_below}
use Rattle.fixed_duration.proofs.nanos_of_fraction.Goals as goal

pub returns-clause-value : goal.returns-clause-value
returns-clause-value c =
    let front = c.first_nine_fraction_digits-digits.result.now in
    ap (λ n. n * c.power_of_ten_nanos.result) c.nanos_number_of_digits.ensures.value ∙ ap (λ p. digits_value 10 front * p) c.power_of_ten_nanos.ensures
    ∙ ap (λ f. digits_value 10 f * 10 ^ (9 - length f)) c.first_nine_fraction_digits-digits.ensures ∙ filled_value c.args.digits.now

pub returns-clause-below : goal.returns-clause-below
returns-clause-below c =
    filled_below c.args.digits.now c.first_nine_fraction_digits-digits.result.now c.nanos_number_of_digits.result c.power_of_ten_nanos.result c.first_nine_fraction_digits-digits.ensures c.nanos_number_of_digits.ensures.below c.power_of_ten_nanos.ensures

pub overflow_mul-result : goal.overflow_mul-result
overflow_mul-result c =
    let below = filled_below c.args.digits.now c.first_nine_fraction_digits-digits.result.now c.nanos_number_of_digits.result c.power_of_ten_nanos.result c.first_nine_fraction_digits-digits.ensures c.nanos_number_of_digits.ensures.below c.power_of_ten_nanos.ensures in
    omega (arith, below)
