use Rattle.std.proofs.Common.{◌≡◌, ◌++◌, ◌-◌, ◌∙◌, ◌<◌, ◌≤◌, ap, arith, drop, length, suc, sym}
use Rattle.std.proofs.lemmas.Grind.{common_steps}
use Rattle.date_times.specs.Digits.{fixed_digits}
use Rattle.playlist_write.proofs.IvDigits.{last_digit, zeros_before, zeros_in_front}
use Rattle.playlist_write.proofs.digits.written_iv_digits.Goals as goal

pub loop-left-preserved : goal.loop-left-preserved
loop-left-preserved c =
    let at = c.loop-left.at in
    let less : at - 1 ≤ at = omega arith in
    let more : at ≡ suc (at - 1) = omega (arith, c.if-at-gt0.true) in
    let room : at - 1 < length c.loop-left.digits = omega (arith, c.loop-left.invariant.size, c.loop-left.invariant.few, c.if-at-gt0.true) in
    record {
      size = grind (arith, common_steps);
      few = omega (arith, c.loop-left.invariant.few);
      zeros = zeros_before (at - 1) at c.written_iv_digit.result c.loop-left.digits less c.loop-left.invariant.zeros;
      done = c.loop-left.invariant.done ∙ last_digit (at - 1) at c.loop-left.left c.written_iv_digit.result c.loop-left.digits more room c.written_iv_digit.ensures;
    }

pub returns-else-at-gt0 : goal.returns-else-at-gt0
unfolding fixed_digits
returns-else-at-gt0 c =
    let none : c.loop-left.at ≡ 0 = omega (arith, c.if-at-gt0.false) in
    sym (c.loop-left.invariant.done ∙ ap (λ n. fixed_digits 16 n c.loop-left.left ++ drop n c.loop-left.digits) none)

pub returns-after-loop-left : goal.returns-after-loop-left
returns-after-loop-left c =
    sym (c.loop-left.invariant.done ∙ zeros_in_front c.loop-left.at c.loop-left.left c.loop-left.digits (omega (arith, c.loop-left-test.false)) c.loop-left.invariant.zeros)
