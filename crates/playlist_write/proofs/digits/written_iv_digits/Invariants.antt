use Rattle.std.proofs.Common.{◌≡◌, ◌++◌, ◌≤◌, take, drop, length, replicate}
use Rattle.date_times.specs.Digits.{fixed_digits}
use Rattle.playlist_write.proofs.digits.written_iv_digits.Given as goal

abbrev pub invariant-loop-left : goal.invariant-loop-left
invariant-loop-left l = record {
  size : length l.digits ≡ 32;
  few : l.at ≤ 32;
  zeros : take l.at l.digits ≡ replicate l.at 48;
  done : fixed_digits 16 32 l.fn.iv ≡ fixed_digits 16 l.at l.left ++ drop l.at l.digits;
}

abbrev pub decreases-loop-left : goal.decreases-loop-left
decreases-loop-left l = l.at
