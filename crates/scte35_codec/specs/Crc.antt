-- CRC_32, as ISO/IEC 13818-1, Annex A, has it: the bits go through a register of 32 bits, the first bit first.
use Rattle.std.specs.Prelude.{◌≡◌, ℕ, zero, suc, ◌*◌, ◌%◌, ◌^◌, Bool, not, List, [], ◌∷◌, ◌++◌, fold, bit_xor, Ok, if◌then◌else◌}
use Rattle.std.specs.List.{flat_map}
use Rattle.std.specs.Int.{bytes_high_first}
use Rattle.scte35_codec.specs.Reading.{splice_bit, reading}
use Rattle.scte35_codec.specs.Layout.{HoldsFields, IsWritten}
use Rattle.scte35_codec.specs.Section.{Section, IsSection}
use Rattle.scte35_codec.specs.Writing.{written_fields}

-- the lowest bits of a number, the highest of them first
unfoldable pub lowest_bits : ℕ → ℕ → List Bool
lowest_bits zero n = []
lowest_bits (suc k) n = splice_bit k n ∷ lowest_bits k n

-- the bits of some bytes
unfoldable pub bits_of : List ℕ → List Bool
bits_of bytes = flat_map (λ b. lowest_bits 8 b) bytes

-- x^32 + x^26 + x^23 + x^22 + x^16 + x^12 + x^11 + x^10 + x^8 + x^7 + x^5 + x^4 + x^2 + x + 1, a bit for each power
-- but the highest
abbrev pub polynomial : ℕ
polynomial = 0x04C11DB7

-- the register moved up by one bit: its highest leaves it, and its lowest is 0
abbrev pub moved_up : ℕ → ℕ
moved_up register = register * 2 % 2 ^ 32

-- whether two bits differ
abbrev pub differ : Bool → Bool → Bool
differ a b = if a then not b else b

-- The register after one bit more: it moves up, and if the bit that leaves it differs from the one that comes, the
-- polynomial is added to it, without carry.
unfoldable pub crc_after_bit : ℕ → Bool → ℕ
crc_after_bit register comes =
    if differ comes (splice_bit 31 register) then bit_xor (moved_up register) polynomial else moved_up register

-- the register after all bits, if it was all ones at first
unfoldable pub crc_of : List ℕ → ℕ
crc_of bytes = fold crc_after_bit 0xFFFFFFFF (bits_of bytes)

-- the same section with another CRC_32
abbrev pub with_crc : Section → ℕ → Section
with_crc s crc = record s { crc = crc }

-- The bytes are this section, written, with the CRC_32 of all its other bytes in place of its own; and are read so.
pub record IsChecked (s : Section) (bytes : List ℕ) : Type 0 where
  pub front : List ℕ
  pub whole : bytes ≡ front ++ bytes_high_first 4 (crc_of front)
  pub written : HoldsFields IsWritten (written_fields (with_crc s (crc_of front))) bytes
  pub section : IsSection (with_crc s (crc_of front)) bytes
  pub again : reading bytes ≡ Ok (with_crc s (crc_of front))
