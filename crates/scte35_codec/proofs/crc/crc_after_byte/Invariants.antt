use Rattle.std.proofs.Common.{◌≡◌, ℕ, ◌≤◌}
use Rattle.std.specs.Prelude.{fold}
use Rattle.scte35_codec.specs.Crc.{crc_after_bit, lowest_bits}
use Rattle.scte35_codec.proofs.crc.crc_after_byte.Given as goal

-- the bits that are left lead to the same register as all
pub record IsOnTheWay (left register byte initial : ℕ) : Type 0 where
  pub few : left ≤ 8
  pub same : fold crc_after_bit register (lowest_bits left byte) ≡ fold crc_after_bit initial (lowest_bits 8 byte)

abbrev pub invariant-loop-left : goal.invariant-loop-left
invariant-loop-left l = IsOnTheWay l.left l.register l.byte l.fn.register

abbrev pub decreases-loop-left : goal.decreases-loop-left
decreases-loop-left l = l.left
