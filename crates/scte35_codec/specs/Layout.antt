-- Fields of bits, as the tables of ANSI/SCTE 35 write them: each has a width in bits, and they follow one
-- another from the highest bit of the first byte on.
use Rattle.std.specs.Prelude.{◌≡◌, ℕ, ◌+◌, ◌*◌, ◌/◌, ◌%◌, ◌^◌, ◌<◌, List, [], ◌∷◌, length, map, slice_index}

-- What stands in a field: this number, or reserved bits, which a reader ignores and a writer sets to this.
pub data Content : Type 0 where
  Is : ℕ → Content
  Reserved : ℕ → Content

-- a width in bits, and what stands there
abbrev pub BitField : Type 0
BitField = ℕ × Content

-- the bits of some fields
abbrev pub width : List BitField → ℕ
width [] = 0
width (f ∷ fs) = f.0 + width fs

-- each byte as a field of eight bits
abbrev pub bytes_of : List ℕ → List BitField
bytes_of bytes = map (λ b. (8, Is b)) bytes

-- every element is a byte
abbrev pub IsBytes : List ℕ → Type 0
IsBytes bytes = (i : ℕ) → slice_index bytes i < 256

-- the number of some bytes, the first byte the highest
abbrev pub big_endian_splice_number : List ℕ → ℕ
big_endian_splice_number [] = 0
big_endian_splice_number (b ∷ bs) = b * 256 ^ length bs + big_endian_splice_number bs

-- The fields take a number's bits apart, from the highest on. Has says which numbers a content allows.
abbrev pub Splits : (Content → ℕ → Type 0) → List BitField → ℕ → Type 0
Splits Has [] n = n ≡ 0
Splits Has (f ∷ fs) n = Has f.1 (n / 2 ^ width fs) × Splits Has fs (n % 2 ^ width fs)

-- The fields take some bytes apart, each bit of them.
pub record HoldsFields (Has : Content → ℕ → Type 0) (fields : List BitField) (bytes : List ℕ) : Type 0 where
  pub count : 8 * length bytes ≡ width fields
  pub split : Splits Has fields (big_endian_splice_number bytes)

-- what a reader accepts: any bits where they are reserved
abbrev pub IsRead : Content → ℕ → Type 0
IsRead (Is v) n = n ≡ v
IsRead (Reserved v) n = Unit {0}

-- what a writer writes
abbrev pub IsWritten : Content → ℕ → Type 0
IsWritten (Is v) n = n ≡ v
IsWritten (Reserved v) n = n ≡ v
