-- What a hexadecimal sequence of an attribute says is a number of 128 bits.
use Rattle.std.proofs.Common.{◌≡◌, ℕ, ◌<◌, ◌≤◌, ◌^◌, Bool, true, false, cond, List, [], ◌∷◌, drop, length, refl, arith}
use Rattle.std.specs.Prelude.{Some, None, ◌&&◌}
use Rattle.std.specs.List.{list_all}
use Rattle.std.specs.Char.{is_ascii_hexdigit, digit_value}
use Rattle.std.specs.Str.Parse.{digits_value, AllDigits}
use Rattle.std.proofs.Math.Nat.{pow-le-pow_right}
use Rattle.std.proofs.lemmas.Bool.{and_parts, lt-ltb, leb-true}
use Rattle.std.proofs.lemmas.Bool.Decides.{nat_tests}
use Rattle.std.proofs.lemmas.Int.Digits.{digits_value-lt}
use Rattle.attr_list.specs.Numbers.{hex_of, has_up_to, has_hex_prefix}
use Rattle.writable.specs.Fitting.{iv_is_writable}

where_some : (b : Bool) (m n : ℕ) → cond b (Some m) None ≡ Some n → (b ≡ true) × (m ≡ n)
where_some true m n h = (refl, cc)
where_some false m n h = absurd (cc)

hex_digits : (ds : List ℕ) → list_all is_ascii_hexdigit ds ≡ true → AllDigits 16 ds
hex_digits [] h = tt
hex_digits (d ∷ ds) h = let a = and_parts _ _ h in (small d a.0, hex_digits ds a.1)
  where
    small : (d : ℕ) → is_ascii_hexdigit d ≡ true → digit_value d < 16
    small d h = grind (arith, nat_tests)

hex_power : (n : ℕ) → n ≤ 32 → 16 ^ n ≤ 2 ^ 128
hex_power n h = let positive : 0 < 16 = omega arith in pow-le-pow_right positive h

pub hex_is_iv : (text : List ℕ) (n : ℕ) → hex_of text ≡ Some n → iv_is_writable n ≡ true
hex_is_iv text n h =
    let w = where_some (has_hex_prefix text && has_up_to 32 (drop 2 text) && list_all is_ascii_hexdigit (drop 2 text)) (digits_value 16 (drop 2 text)) n h in
    let a : ((has_hex_prefix text && has_up_to 32 (drop 2 text)) ≡ true) × (list_all is_ascii_hexdigit (drop 2 text) ≡ true) = and_parts _ _ w.0 in
    let size : length (drop 2 text) ≤ 32 = leb-true _ _ (and_parts _ _ (and_parts (has_hex_prefix text) (has_up_to 32 (drop 2 text)) a.0).1).1 in
    let below = digits_value-lt 16 (drop 2 text) (hex_digits (drop 2 text) a.1) in
    small (digits_value 16 (drop 2 text)) n (16 ^ length (drop 2 text)) w.1 below (hex_power (length (drop 2 text)) size)
  where
    small : (v n most : ℕ) → v ≡ n → v < most → most ≤ 2 ^ 128 → iv_is_writable n ≡ true
    small v n most e h g = lt-ltb n (2 ^ 128) (omega arith)
