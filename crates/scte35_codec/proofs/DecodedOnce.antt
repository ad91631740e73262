-- Digits that are told from other bytes while they are decoded.
use Rattle.std.proofs.Common.{◌≡◌, ℕ, ◌/◌, ◌%◌, true, false, eqb, List, [], ◌∷◌, length, drop, Result, Ok, Err, refl, sym, ◌∙◌, arith}
use Rattle.std.specs.List.{list_all}
use Rattle.std.specs.Char.{is_ascii_hexdigit}
use Rattle.std.specs.Prelude.{MatchResult}
use Rattle.std.proofs.lemmas.Bool.{and_parts, and_from, eq-eqb}
use Rattle.std.proofs.lemmas.List.Sums.{list_all-from_AllPass}
use Rattle.hex.specs.declared.error.FromHexError.{FromHexError}
use Rattle.hex.specs.Hex.{decode_of, decode_sized, is_hex_digit}
use Rattle.hex.proofs.HexLemmas.{decode_of-ok}
use Rattle.spec_words.specs.Outcomes.{◌>>=◌}
use Rattle.scte35_codec.specs.declared.fault.SpliceFault.TheVariants.{NotHex}
use Rattle.scte35_codec.specs.Reading.{reading}
use Rattle.scte35_codec.specs.Hexadecimal.{are_pairs, begins_with_0x, decoded, hex_bytes, reading_hex}
use Rattle.scte35_codec.specs.Inner.Hexadecimal.{reading_digits}

same_digit : (c : ℕ) → is_hex_digit c ≡ true → is_ascii_hexdigit c ≡ true
same_digit c h = grind arith

same_digits : (digits : List ℕ) → list_all is_hex_digit digits ≡ true → list_all is_ascii_hexdigit digits ≡ true
same_digits [] h = refl
same_digits (c ∷ cs) h =
    let both = and_parts (is_hex_digit c) (list_all is_hex_digit cs) h in
    and_from (is_ascii_hexdigit c) (list_all is_ascii_hexdigit cs) (same_digit c both.0) (same_digits cs both.1)

-- what is decoded are pairs of digits
decoded_pairs : (digits bytes : List ℕ) → decode_of digits ≡ Ok bytes → are_pairs digits ≡ true
decoded_pairs digits bytes e =
    let ok = decode_of-ok digits bytes e in
    and_from (eqb (length digits % 2) 0) (list_all is_ascii_hexdigit digits) (eq-eqb _ _ ok.0) (same_digits digits (list_all-from_AllPass is_hex_digit digits ok.1))

not_pairs_by : (digits : List ℕ) (d : Result (List ℕ) FromHexError) → decode_of digits ≡ d → are_pairs digits ≡ false → (decoded d >>= reading) ≡ Err NotHex
not_pairs_by digits (Ok bytes) is unpaired = absurd (cc (sym (decoded_pairs digits bytes is) ∙ unpaired))
not_pairs_by digits (Err e) is unpaired = refl

-- what are no pairs of digits says nothing
pub not_pairs : (digits : List ℕ) → are_pairs digits ≡ false → reading_digits digits ≡ Err NotHex
not_pairs digits unpaired = not_pairs_by digits (decode_of digits) refl unpaired

half_room : (digits : List ℕ) → decode_sized digits (length digits / 2) ≡ decode_of digits
half_room digits = grind arith

-- what was decoded, or wasn't, says what the digits say
pub short_says : (digits : List ℕ) (room : ℕ) (r : Result (Unit {0}) FromHexError) (out : List ℕ) → room ≡ length digits / 2
    → MatchResult (decode_sized digits room) (λ bytes. (r ≡ Ok tt) × (out ≡ bytes)) (λ e. r ≡ Err e)
    → MatchResult r (λ _. reading_digits digits ≡ reading out) (λ e. reading_digits digits ≡ Err NotHex)
short_says digits room r out half is = grind (arith, half_room)

-- a text that begins with 0x says what its digits say
pub digits_say : (text : List ℕ) → begins_with_0x text ≡ true → reading_hex text ≡ reading_digits (drop 2 text)
unfolding reading_hex hex_bytes
digits_say text begins = grind (arith, not_pairs)

pub no_digits : (text : List ℕ) → begins_with_0x text ≡ false → reading_hex text ≡ Err NotHex
unfolding reading_hex hex_bytes
no_digits text begins = grind arith
