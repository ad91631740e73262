-- A section as hexadecimal text, as the SCTE35-CMD, SCTE35-OUT and SCTE35-IN attributes of RFC 8216,
-- section 4.3.2.7.1, write it.
use Rattle.std.specs.Prelude.{ℕ, ◌%◌, Bool, ◌&&◌, ◌||◌, ◌==◌, List, length, drop, slice_index, Result, Ok, Err, if◌then◌else◌}
use Rattle.std.specs.List.{list_all}
use Rattle.std.specs.Char.{is_ascii_hexdigit}
use Rattle.spec_words.specs.Bytes.{digit_zero, capital_x, small_x}
use Rattle.hex.specs.declared.error.FromHexError.{FromHexError}
use Rattle.hex.specs.Hex.{decode_of}
use Rattle.scte35_codec.specs.declared.fault.SpliceFault.{SpliceFault}
use Rattle.scte35_codec.specs.declared.fault.SpliceFault.TheVariants.{NotHex}
use Rattle.scte35_codec.specs.Section.{Section}
use Rattle.spec_words.specs.Outcomes.{◌>>=◌}
use Rattle.scte35_codec.specs.Reading.{reading}

-- whether a text begins with `0x` or `0X`
abbrev pub begins_with_0x : List ℕ → Bool
begins_with_0x text = slice_index text 0 == digit_zero && (slice_index text 1 == small_x || slice_index text 1 == capital_x)

-- an even number of digits, in either case
abbrev pub are_pairs : List ℕ → Bool
are_pairs digits = length digits % 2 == 0 && list_all is_ascii_hexdigit digits

-- whether a text is hexadecimal: `0x` or `0X`, and an even number of digits
abbrev pub is_hex_text : List ℕ → Bool
is_hex_text text = begins_with_0x text && are_pairs (drop 2 text)

-- the digits after `0x` or `0X`
abbrev pub section_digits_of : List ℕ → Result (List ℕ) SpliceFault
section_digits_of text = if is_hex_text text then Ok (drop 2 text) else Err NotHex

abbrev pub decoded : Result (List ℕ) FromHexError → Result (List ℕ) SpliceFault
decoded (Ok bytes) = Ok bytes
decoded (Err e) = Err NotHex

-- the bytes that a text stands for
unfoldable pub hex_bytes : List ℕ → Result (List ℕ) SpliceFault
hex_bytes text = section_digits_of text >>= λ digits. decoded (decode_of digits)

-- what a text says, or its first fault
unfoldable pub reading_hex : List ℕ → Result Section SpliceFault
reading_hex text = hex_bytes text >>= reading
