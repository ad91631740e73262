-- Numbers that are written are read, and which bytes they have.
use Rattle.std.proofs.Common.{◌≡◌, ℕ, ◌^◌, ◌<◌, Bool, true, cond, List, [], ◌∷◌, refl, arith, rules, Some}
use Rattle.std.specs.Prelude.{◌||◌, ◌==◌}
use Rattle.std.specs.List.{list_all}
use Rattle.std.specs.Char.{is_ascii_digit, is_ascii_hexdigit, digit_value}
use Rattle.std.specs.Fmt.{decimal}
use Rattle.std.specs.Str.Parse.{digits_value, AllDigits}
use Rattle.std.proofs.lemmas.Bool.{and_from, cond-true, lt-ltb, le-leb, or_left}
use Rattle.std.proofs.lemmas.Bool.Decides.{nat_tests}
use Rattle.std.proofs.lemmas.List.Folds.{list_all-append}
use Rattle.std.proofs.lemmas.Str.Parse.{IsNumeralModel, numerals_by_value}
use Rattle.std.proofs.lemmas.Fmt.{digits_decimal}
use Rattle.fixed_duration.specs.Text.{fraction_digits}
use Rattle.fixed_duration.specs.Duration.{duration_text}
use Rattle.fixed_duration.proofs.Again.{Digits, digits_fraction}
use Rattle.attr_list.specs.Numbers.{hex_of}
use Rattle.attr_list.proofs.Elements.{all_from}
use Rattle.date_times.proofs.FixedDigits.{fixed}
use Rattle.date_times.specs.Digits.{fixed_digits}

pub by_value : IsNumeralModel Digits (digits_value 10)
by_value = numerals_by_value Digits (search rules)

-- ---- a fixed number of digits

hex_digit : (c : ℕ) → digit_value c < 16 → is_ascii_hexdigit c ≡ true
hex_digit c h = grind (arith, nat_tests)

hex_digits : (ds : List ℕ) → AllDigits 16 ds → list_all is_ascii_hexdigit ds ≡ true
hex_digits [] h = refl
hex_digits (c ∷ ds) h = and_from _ _ (hex_digit c h.0) (hex_digits ds h.1)

pub hex_read : (n : ℕ) → n < 2 ^ 128 → hex_of (48 ∷ 120 ∷ fixed_digits 16 32 n) ≡ Some n
hex_read n h = grind (arith, fixed, and_from, lt-ltb, le-leb, hex_digits, cond-true)

abbrev pub is_number_byte : ℕ → Bool
is_number_byte b = is_ascii_digit b || b == 46

digit_is_number : (b : ℕ) → is_ascii_digit b ≡ true → is_number_byte b ≡ true
digit_is_number b h = or_left _ _ h

number_digits : (ds : List ℕ) → Digits ds → list_all is_number_byte ds ≡ true
number_digits ds h = all_from is_ascii_digit is_number_byte ds h digit_is_number

pub decimal_bytes : (n : ℕ) → n < 2 ^ 64 → list_all is_number_byte (decimal n) ≡ true
decimal_bytes n h = number_digits (decimal n) (digits_decimal by_value n h)

fraction_bytes : (b : Bool) (f : ℕ) → f < 10 ^ 9 → list_all is_number_byte (cond b [] (46 ∷ fraction_digits 9 f)) ≡ true
fraction_bytes b f h = grind (arith, and_from, number_digits, digits_fraction)

pub duration_bytes : (n : ℕ) → n < 10 ^ 15 → list_all is_number_byte (duration_text n) ≡ true
duration_bytes n h = grind (arith, list_all-append, and_from, decimal_bytes, fraction_bytes)

pub hex_bytes : (n : ℕ) → n < 2 ^ 128 → list_all is_ascii_hexdigit (fixed_digits 16 32 n) ≡ true
hex_bytes n h = hex_digits (fixed_digits 16 32 n) (fixed 16 32 n (omega arith) (omega arith) (omega arith)).all
