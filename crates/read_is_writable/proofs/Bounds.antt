-- How large the numbers can be that a text says.
use Rattle.std.proofs.Common.{zero, suc, ◌≡◌, ℕ, ◌<◌, ◌^◌, Bool, true, false, cond, List, [], ◌∷◌, ◌++◌, take, length, replicate, refl, sym, ◌∙◌, arith}
use Rattle.std.specs.Prelude.{Result, Ok, Err, Some, None}
use Rattle.std.specs.List.{list_all}
use Rattle.std.specs.Char.{is_ascii_digit, digit_value}
use Rattle.std.specs.Str.Parse.{digits_value, AllDigits}
use Rattle.std.proofs.lemmas.Bool.{and_parts, and_from, lt-ltb, leb-false, not-false}
use Rattle.std.proofs.lemmas.Int.Digits.{digits_value-lt}
use Rattle.std.proofs.lemmas.Bool.Decides.{nat_tests}
use Rattle.std.proofs.lemmas.List.Folds.{list_all-append}
use Rattle.fixed_duration.specs.Duration.{duration_of}
use Rattle.fixed_duration.specs.declared.DurationFault.{DurationFault}
use Rattle.fixed_duration.specs.Text.{nine_digits}
use Rattle.fixed_duration.proofs.Digits.{length-filled}
use Rattle.attr_list.specs.Numbers.{decimal_of}
use Rattle.playlist_write.specs.WellFormed.{is_well_formed_number, duration_fits}

-- what is answered only if a test holds
pub where_some : {A : Type 0} (b : Bool) (x y : A) → cond b (Some x) None ≡ Some y → (b ≡ true) × (x ≡ y)
where_some true x y h = (refl, cc)
where_some false x y h = cc

pub not_refused : {A E : Type 0} (b : Bool) (e : E) (o : Result A E) (x : A) → cond b (Err e) o ≡ Ok x → (b ≡ false) × (o ≡ Ok x)
not_refused true e o x h = cc
not_refused false e o x h = (refl, h)

-- a decimal is below 2 ^ 64
pub decimal_is_word : (text : List ℕ) (n : ℕ) → decimal_of text ≡ Some n → is_well_formed_number n ≡ true
decimal_is_word text n h = grind arith

-- ---- durations

all_digits : (ds : List ℕ) → list_all is_ascii_digit ds ≡ true → AllDigits 10 ds
all_digits [] h = tt
all_digits (d ∷ ds) h = let a = and_parts _ _ h in (small d a.0, all_digits ds a.1)
  where
    small : (d : ℕ) → is_ascii_digit d ≡ true → digit_value d < 10
    small d h = grind (arith, nat_tests)

zeros : (n : ℕ) → list_all is_ascii_digit (replicate n 48) ≡ true
zeros zero = refl
zeros (suc n) = zeros n

fraction_is_small : (digits : List ℕ) → list_all is_ascii_digit digits ≡ true → digits_value 10 (nine_digits digits) < 10 ^ 9
fraction_is_small digits h =
    let l : length (nine_digits digits) ≡ 9 = length-filled 9 digits in
    let all : list_all is_ascii_digit (digits ++ replicate 9 48) ≡ true = list_all-append is_ascii_digit digits (replicate 9 48) ∙ and_from _ _ h refl in
    let below = digits_value-lt 10 (nine_digits digits) (all_digits (nine_digits digits) (all_taken 9 (digits ++ replicate 9 48) all)) in
    rw l at below
  where
    all_taken : (n : ℕ) (xs : List ℕ) → list_all is_ascii_digit xs ≡ true → list_all is_ascii_digit (take n xs) ≡ true
    all_taken zero xs h = refl
    all_taken (suc n) [] h = refl
    all_taken (suc n) (x ∷ xs) h = let a = and_parts _ _ h in and_from _ _ a.0 (all_taken n xs a.1)

ok_same : (o : Result ℕ DurationFault) (x y : ℕ) → o ≡ Ok x → o ≡ Ok y → x ≡ y
ok_same o x y g h = let e : Ok x ≡ o = sym g in cc

-- a duration is below 1,000,000 s
pub duration_is_small : (text : List ℕ) (n : ℕ) → duration_of text ≡ Ok n → duration_fits n ≡ true
duration_is_small text n h = grind (arith, not_refused, leb-false, and_parts, not-false, fraction_is_small, ok_same, lt-ltb)
