use Rattle.std.proofs.Common.{◌≡◌, take}
use Rattle.scte35_codec.specs.Layout.{big_endian_splice_number}
use Rattle.scte35_codec.proofs.bits.big_endian_splice_number.Given as goal

abbrev pub invariant-loop-byte : goal.invariant-loop-byte
invariant-loop-byte l = l.number ≡ big_endian_splice_number (take l.byte-index l.bytes)
