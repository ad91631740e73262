use Rattle.std.proofs.Common.{◌≡◌, ◌-◌, ◌^◌, length, sym, ap, append_assoc, arith}
use Rattle.std.proofs.lemmas.Grind.{common_steps}
use Rattle.std.proofs.Math.Nat.{mod-lt}
use Rattle.fixed_duration.proofs.Digits.{fraction_next, fraction_zero, next_digit, power_positive}
use Rattle.fixed_duration.proofs.push_duration_fraction.Goals as goal

pub loop-rest-preserved : goal.loop-rest-preserved
loop-rest-preserved c =
    let k = c.loop-rest.places in
    let n = c.loop-rest.rest in
    let unit : 10 ^ (k - 1) ≡ c.pow-unit.result = sym c.pow-unit.ensures in
    let positive = rw unit at (power_positive (k - 1)) in
    let digit = rw unit at (next_digit k n (omega arith) c.loop-rest.invariant.below) in
    let next = rw unit at (fraction_next k n (omega arith) (omega arith) c.loop-rest.invariant.below) in
    let bytes = rw c.unwrap.ensures at c.push.ensures.bytes in
    let len = rw c.unwrap.ensures at c.push.ensures.len in
    let glyph = c.push.ensures.ascii (omega (arith, digit)) in
    record {
      written = rw (bytes, glyph, append_assoc) (rw (← next) c.loop-rest.invariant.written);
      below = rw unit (mod-lt n positive);
      places = omega arith;
      room = omega (arith, len, ap length glyph, c.push.ensures.capacity);
    }

pub returns-after-loop-rest : goal.returns-after-loop-rest
returns-after-loop-rest c =
    let none = fraction_zero c.loop-rest.places in
    let written = rw c.loop-rest-test.false at c.loop-rest.invariant.written in
    grind (arith, common_steps, none, written)
