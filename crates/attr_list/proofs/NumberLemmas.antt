-- The numbers that digits write.
use Rattle.std.proofs.Common.{◌≡◌, ℕ, zero, suc, ◌+◌, ◌-◌, ◌*◌, ◌^◌, ◌<◌, ◌≤◌, Bool, true, cond, List, [], ◌∷◌, take, length, get_or, refl, ap, sym, ◌∙◌, arith, rules, Some, None}
use Rattle.std.specs.Prelude.{◌&&◌, nat_lt, Option}
use Rattle.std.specs.Option.{SomeIff}
use Rattle.std.specs.List.{list_all}
use Rattle.std.specs.Char.{is_ascii_digit, is_ascii_hexdigit, digit_value}
use Rattle.std.specs.Str.Parse.{digits_value, AllDigits}
use Rattle.std.proofs.lemmas.Bool.{and_parts, and_from, cond-true, lt-ltb, le-leb, ltb-true}
use Rattle.std.proofs.lemmas.Bool.Decides.{nat_tests}
use Rattle.std.proofs.Math.Nat.{pow-le-pow_right}
use Rattle.std.proofs.lemmas.Int.Digits.{digits_value-lt, digits_value_more}
use Rattle.std.proofs.lemmas.List.{take_all, length-take-le}
use Rattle.std.proofs.lemmas.Str.Parse.{digits_value-take-le}
use Rattle.std.specs.Fmt.{decimal}
use Rattle.std.proofs.lemmas.Str.Parse.{IsNumeralModel, numerals_by_value}
use Rattle.std.proofs.lemmas.Fmt.{decimal_is_IsNumeral, length-decimal-le, decimal_nonempty, digits_decimal}
use Rattle.std.proofs.lemmas.Grind.{common_steps}
use Rattle.attr_list.specs.Numbers.{decimal_of, has_up_to}

-- digits by a test of each
digits_by : (p : ℕ → Bool) (radix : ℕ) (ds : List ℕ) → ((c : ℕ) → p c ≡ true → digit_value c < radix) → list_all p ds ≡ true → AllDigits radix ds
digits_by p radix [] each h = tt
digits_by p radix (c ∷ ds) each h = let a = and_parts _ _ h in (each c a.0, digits_by p radix ds each a.1)

hex_digit : (c : ℕ) → is_ascii_hexdigit c ≡ true → digit_value c < 16
hex_digit c h = grind (arith, nat_tests)

-- ---- digits of a decimal, one after the other

-- one digit more
pub value_more : (ds : List ℕ) (i : ℕ) → i < length ds → is_ascii_digit (get_or ds i 0) ≡ true → digits_value 10 (take (i + 1) ds) ≡ digits_value 10 (take i ds) * 10 + (get_or ds i 0 - 48)
value_more ds i below digit = grind (arith, digits_value_more)

pub digits_more : (ds : List ℕ) (i : ℕ) → i < length ds → list_all is_ascii_digit (take i ds) ≡ true → is_ascii_digit (get_or ds i 0) ≡ true → list_all is_ascii_digit (take (i + 1) ds) ≡ true
digits_more [] i below h d = absurd (omega (arith, below))
digits_more (c ∷ ds) zero below h d = and_from _ _ d refl
digits_more (c ∷ ds) (suc i) below h d =
    let more : suc i + 1 ≡ suc (i + 1) = omega arith in
    let a = and_parts (is_ascii_digit c) (list_all is_ascii_digit (take i ds)) h in
    rw more (and_from _ _ a.0 (digits_more ds i (omega (arith, below)) a.1 d))

none_unless : (a b c : Bool) (v : ℕ) → (b ≡ true → c ≡ true → ⊥) → cond (a && b && c) (Some v) None ≡ None
none_unless a b c v h = grind arith

-- if a byte is no digit, or its digit too many, the text is no decimal
pub no_decimal : (ds : List ℕ) (i v : ℕ) → i < length ds → v ≡ digits_value 10 (take i ds)
    → ((is_ascii_digit (get_or ds i 0) ≡ true) × (v * 10 + (get_or ds i 0 - 48) < 2 ^ 64) → ⊥) → decimal_of ds ≡ None
no_decimal ds i v within value h =
    grind (arith, common_steps, nat_tests, digits_value-take-le, ltb-true, none_unless, value_more)

-- if all are, it is
pub is_decimal : (ds : List ℕ) (v n : ℕ) → 0 < length ds → length ds ≤ 20 → length ds ≤ n → v ≡ digits_value 10 (take n ds) → v < 2 ^ 64 → list_all is_ascii_digit (take n ds) ≡ true → decimal_of ds ≡ Some v
is_decimal ds v n some few long value below digits = grind (arith, take_all)

-- the last digit, which may be too many
pub last_digit : (ds : List ℕ) (n v d : ℕ) (o : Option ℕ) → n < length ds → length ds ≤ n + 1 → n ≤ 19 → v ≡ digits_value 10 (take n ds) → list_all is_ascii_digit (take n ds) ≡ true → d ≡ get_or ds n 0
    → SomeIff o ((is_ascii_digit d ≡ true) × (v * 10 + (d - 48) < 2 ^ 64)) (v * 10 + (d - 48)) → o ≡ decimal_of ds
last_digit ds n v d None within few most value digits at h = sym (no_decimal ds n v within value (rw at at h))
last_digit ds n v d (Some x) within few most value digits at h =
    let digit : is_ascii_digit (get_or ds n 0) ≡ true = grind (arith, h, at) in
    let more : x ≡ digits_value 10 (take (n + 1) ds) = grind (arith, h, at, value, value_more) in
    sym (is_decimal ds x (n + 1) (omega (arith, within)) (omega (arith, few, most)) few more (grind (arith, h)) (digits_more ds n within digits digit))

decimal_digit : (c : ℕ) → is_ascii_digit c ≡ true → digit_value c < 10
decimal_digit c h = grind (arith, nat_tests)

-- before the last of 19 there is room for one digit more
pub decimal_room : (ds : List ℕ) (i v : ℕ) → i < length ds → length ds ≤ 19 → v ≡ digits_value 10 (take i ds) → list_all is_ascii_digit (take i ds) ≡ true → v * 10 + 9 < 2 ^ 64
decimal_room ds i v below few value digits =
    let size : length (take i ds) ≤ 18 = omega (arith, length-take-le i ds (omega (arith, below)), below, few) in
    let small = digits_value-lt 10 (take i ds) (digits_by is_ascii_digit 10 (take i ds) decimal_digit digits) in
    let most : 10 ^ length (take i ds) ≤ 10 ^ 18 = pow-le-pow_right {n = 10} (omega arith) size in
    omega (arith, small, most, value)

-- ---- digits of a hexadecimal sequence, one after the other

-- before the last of 32 there is room for one digit more
pub hex_room : (ds : List ℕ) (i v : ℕ) → i < length ds → length ds ≤ 32 → v ≡ digits_value 16 (take i ds) → list_all is_ascii_hexdigit (take i ds) ≡ true → v * 16 + 15 < 2 ^ 128
hex_room ds i v below few value digits =
    let size : length (take i ds) ≤ 31 = omega (arith, length-take-le i ds (omega (arith, below)), below, few) in
    let small = digits_value-lt 16 (take i ds) (digits_by is_ascii_hexdigit 16 (take i ds) hex_digit digits) in
    let most : 16 ^ length (take i ds) ≤ 16 ^ 31 = pow-le-pow_right {n = 16} (omega arith) size in
    omega (arith, small, most, value)

-- ---- a number that is written is read

by_value : IsNumeralModel (λ ds. list_all is_ascii_digit ds ≡ true) (digits_value 10)
by_value = numerals_by_value (λ ds. list_all is_ascii_digit ds ≡ true) (search rules)

pub written_decimal : (n : ℕ) → n < 2 ^ 64 → decimal_of (decimal n) ≡ Some n
written_decimal n h =
    let value : digits_value 10 (decimal n) ≡ n = (decimal_is_IsNumeral n h).1 in
    let some : 0 < length (decimal n) = decimal_nonempty n h in
    let few : length (decimal n) ≤ 20 = length-decimal-le 20 n (omega arith) (omega arith) h in
    let size : has_up_to 20 (decimal n) ≡ true = and_from _ _ (lt-ltb _ _ some) (le-leb _ _ few) in
    let below : nat_lt (digits_value 10 (decimal n)) (2 ^ 64) ≡ true = lt-ltb _ _ (omega arith) in
    cond-true _ _ _ (and_from _ _ (and_from _ _ size (digits_decimal by_value n h)) below) ∙ ap Some value
