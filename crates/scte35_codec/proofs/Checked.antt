-- A section that is written: its front, and then a CRC_32.
use Rattle.std.proofs.Common.{◌≡◌, ℕ, ◌^◌, ◌<◌, true, List, [], ◌∷◌, ◌++◌, refl, append_assoc, arith}
use Rattle.std.specs.Int.{bytes_high_first}
use Rattle.scte35_codec.specs.Layout.{BitField, Is}
use Rattle.scte35_codec.specs.Section.{Section, start_fields, heading_fields, command_fields, after_length, splice_section_fields}
use Rattle.scte35_codec.specs.Writing.{command_length, splice_section_length, has_splice_section, written_fields}
use Rattle.scte35_codec.specs.Inner.Writing.{front_fields, Appends}
use Rattle.scte35_codec.specs.Crc.{crc_of, with_crc, IsChecked}
use Rattle.scte35_codec.proofs.Whole.{width-after}
use Rattle.scte35_codec.proofs.Appends.{Appends-then, Appends-is, Made, made, made_is, made_again}
use Rattle.scte35_codec.proofs.Registers.{crc_below}

abbrev crc_fields : ℕ → List BitField
crc_fields crc = (32, Is crc) ∷ []

abbrev start : Section → List BitField
start s = start_fields (splice_section_length s)

abbrev middle : Section → List BitField
middle s = heading_fields s (command_length s) ++ command_fields s.command

front_then_crc : (s : Section) → front_fields s ++ crc_fields s.crc ≡ written_fields s
unfolding splice_section_fields after_length
front_then_crc s = grind (arith, append_assoc)

-- the front, and then the section's own CRC_32
pub whole_made : (s : Section) (a b : List ℕ) → Appends (front_fields s) [] a → Appends (crc_fields s.crc) a b → Made s b
whole_made s a b front crc = made s [] b refl (Appends-is (front_then_crc s) (Appends-then front crc))

-- ---- Another CRC_32 changes nothing else

same_length : (s : Section) (crc : ℕ) → splice_section_length (with_crc s crc) ≡ splice_section_length s
same_length s crc = grind (arith, width-after)

same_front : (s : Section) (crc : ℕ) → front_fields s ≡ front_fields (with_crc s crc)
same_front s crc = grind (arith, same_length)

still_has_section : (s : Section) (crc : ℕ) → has_splice_section s ≡ true → has_splice_section (with_crc s crc) ≡ true
unfolding has_splice_section
still_has_section s crc fit = grind (arith, same_length)

crc_appends : (crc : ℕ) (a b : List ℕ) → crc < 2 ^ 32 → b ≡ a ++ bytes_high_first 4 crc → Appends (crc_fields crc) a b
crc_appends crc a b below whole = grind arith

-- the front, and then its CRC_32
pub checked : (s : Section) (a b : List ℕ) → has_splice_section s ≡ true → Appends (front_fields s) [] a → b ≡ a ++ bytes_high_first 4 (crc_of a) → IsChecked s b
checked s a b fit front whole =
    let crc = crc_of a in
    let t = with_crc s crc in
    let fit' = still_has_section s crc fit in
    let is : Made t b = whole_made t a b (Appends-is (same_front s crc) front) (crc_appends crc a b (crc_below a) whole) in
    record { front = a; whole = whole; written = is.holds; section = made_is t b fit' is; again = made_again t b fit' is }
