use Rattle.std.proofs.Common.{arith, ◌+◌}
use Rattle.std.proofs.lemmas.Str.Parse.{digits_value-take-le}
use Rattle.fixed_duration.proofs.Digits.{value_more, digit_in}
use Rattle.fixed_duration.proofs.whole_seconds_of_duration.Goals as goal

pub returns-then-value-ge-MAX_SECONDS : goal.returns-then-value-ge-MAX_SECONDS
returns-then-value-ge-MAX_SECONDS c h =
    let e = value_more c.args.digits.now c.loop-digit.digit-index (digit_in c.args.digits.now c.loop-digit.digit-index c.requires (omega arith)) (omega arith) in
    let most = digits_value-take-le 10 c.args.digits.now (c.loop-digit.digit-index + 1) (omega arith) in
    omega (arith, e, most)

pub loop-digit-preserved : goal.loop-digit-preserved
loop-digit-preserved c = record { value = let e = value_more c.args.digits.now c.loop-digit.digit-index (digit_in c.args.digits.now c.loop-digit.digit-index c.requires (omega arith)) (omega arith) in omega (arith, e); below = omega arith }
