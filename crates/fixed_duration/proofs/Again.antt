-- What is written of a duration is read again.
use Rattle.std.proofs.Common.{◌≡◌, ℕ, zero, suc, ◌+◌, ◌-◌, ◌*◌, ◌/◌, ◌%◌, ◌^◌, ◌<◌, ◌≤◌, true, false, List, [], ◌∷◌, ◌++◌, length, take, replicate, decimal, sym, ◌∙◌, ap, refl, arith, rules, append-nil, inl, inr, length-append, Ok}
use Rattle.std.proofs.lemmas.Bool.Decides.{nat_tests}
use Rattle.std.proofs.lemmas.Str.Parse.{IsNumeralModel, IsDigitsTest, numerals_by_weight, numerals_by_value}
use Rattle.std.proofs.lemmas.Fmt.{digits_decimal, digits_value-decimal, decimal_nonempty}
use Rattle.std.proofs.Math.Nat.{mod-lt, mod-eq-sub-div-mul, div-mul-le_self}
use Rattle.std.specs.Prelude.{◌==◌}
use Rattle.std.specs.List.{list_all, position_or_len}
use Rattle.std.specs.Char.{is_ascii_digit}
use Rattle.std.specs.Str.Parse.{digits_value}
use Rattle.std.specs.Int.{IsInRange}
use Rattle.std.proofs.lemmas.Bool.{cases_lt}
use Rattle.std.proofs.lemmas.List.{length-take-le, length-replicate}
use Rattle.std.proofs.Math.Seq.{take-append_seam, drop-append-add, take-length}
use Rattle.fixed_duration.specs.Text.{last_digits, fraction_digits, is_point, whole_part, fraction_part, nine_digits}
use Rattle.fixed_duration.specs.Duration.{duration_of, duration_text}
use Rattle.std.proofs.lemmas.List.{drop_all}
use Rattle.fixed_duration.proofs.Digits.{power_positive, fraction_step, fraction_zero, digit_step}

abbrev pub Digits : List ℕ → Type 0
Digits ds = list_all is_ascii_digit ds ≡ true

-- each digit with the weight of its place
abbrev pub weight : List ℕ → ℕ
weight [] = 0
weight (c ∷ cs) = (c - 48) * 10 ^ length cs + weight cs

test : IsDigitsTest Digits
test = search rules

by_weight : IsNumeralModel Digits weight
by_weight = numerals_by_weight Digits test weight (search rules)

by_value : IsNumeralModel Digits (digits_value 10)
by_value = numerals_by_value Digits test

not_point : (c : ℕ) → IsInRange 48 57 c → is_point c ≡ false
not_point c h = grind (arith, nat_tests)

-- a point is no digit
pub cut : (ds rest : List ℕ) → Digits ds → position_or_len is_point (ds ++ 46 ∷ rest) ≡ length ds
cut [] rest h = refl
cut (c ∷ cs) rest h = let d = test.parts c cs h in rw (not_point c d.0) (omega (arith, cut cs rest d.1))

pub no_cut : (ds : List ℕ) → Digits ds → position_or_len is_point ds ≡ length ds
no_cut [] h = refl
no_cut (c ∷ cs) h = let d = test.parts c cs h in rw (not_point c d.0) (omega (arith, no_cut cs d.1))

-- the fraction's digits
pub digits_fraction : (k f : ℕ) → f < 10 ^ k → Digits (fraction_digits k f)
unfolding last_digits
digits_fraction zero f h = refl
digits_fraction (suc k) f h =
    elim (cases_lt 0 f) [
      | inl pos ↦
          let digit = digit_step k f h in
          let rest = digits_fraction k (f % 10 ^ k) (mod-lt f (power_positive k)) in
          rw (fraction_step k f pos h) (test.more (48 + f / 10 ^ k) (fraction_digits k (f % 10 ^ k)) (omega arith, omega arith) rest)
      | inr none ↦ let e : f ≡ 0 = omega arith in rw (e, fraction_zero (suc k)) refl
    ]

zeros : (k m : ℕ) → weight (take k (replicate m 48)) ≡ 0
zeros zero m = refl
zeros (suc k) zero = refl
zeros (suc k) (suc m) = omega (arith, zeros k m)

pub fraction_weight : (k m f : ℕ) → k ≤ m → f < 10 ^ k → weight (take k (fraction_digits k f ++ replicate m 48)) ≡ f
fraction_weight zero m f h below = omega arith
fraction_weight (suc k) m f h below =
    elim (cases_lt 0 f) [
      | inl pos ↦
          let rest = f % 10 ^ k in
          let again = fraction_weight k m rest (omega arith) (mod-lt f (power_positive k)) in
          let tail = fraction_digits k rest ++ replicate m 48 in
          let long : length (take k tail) ≡ k = length-take-le k tail (omega (arith, length-append (fraction_digits k rest) (replicate m 48), length-replicate {A = ℕ} m 48)) in
          let digit : 48 + f / 10 ^ k - 48 ≡ f / 10 ^ k = omega arith in
          rw (fraction_step k f pos below, long, again, digit) (omega (arith, mod-eq-sub-div-mul f (10 ^ k), div-mul-le_self f (10 ^ k)))
      | inr none ↦ let e : f ≡ 0 = omega arith in rw (e, fraction_zero (suc k)) (zeros (suc k) m)
    ]

zero_digits : (n m : ℕ) → Digits (take n (replicate m 48))
zero_digits zero m = refl
zero_digits (suc n) zero = refl
zero_digits (suc n) (suc m) = zero_digits n m

filled_digits : (n m : ℕ) (ds : List ℕ) → Digits ds → Digits (take n (ds ++ replicate m 48))
filled_digits zero m ds h = refl
filled_digits (suc n) m [] h = zero_digits (suc n) m
filled_digits (suc n) m (c ∷ ds) h = let d = test.parts c ds h in test.more c (take n (ds ++ replicate m 48)) d.0 (filled_digits n m ds d.1)

-- the first nine digits of a fraction of a second write it
pub fraction_value : (f : ℕ) → f < 10 ^ 9 → digits_value 10 (nine_digits (fraction_digits 9 f)) ≡ f
fraction_value f h =
    let nine = nine_digits (fraction_digits 9 f) in
    let digits : Digits nine = filled_digits 9 9 (fraction_digits 9 f) (digits_fraction 9 f h) in
    sym (by_weight.same nine (by_weight.to nine digits)) ∙ fraction_weight 9 9 f (omega arith) h

whole_first : (ds rest : List ℕ) → Digits ds → (whole_part (ds ++ 46 ∷ rest) ≡ ds) × (fraction_part (ds ++ 46 ∷ rest) ≡ rest)
whole_first ds rest h = rw (cut ds rest h) (take-append_seam ds (46 ∷ rest), drop-append-add ds (46 ∷ rest) 1)

whole_alone : (ds : List ℕ) → Digits ds → (whole_part ds ≡ ds) × (fraction_part ds ≡ [])
whole_alone ds h = rw (no_cut ds h) (take-length ds, drop_all (length ds + 1) ds (omega arith))

-- a text whose parts are known
denotes : (text whole fraction : List ℕ) → whole_part text ≡ whole → fraction_part text ≡ fraction → 0 < length text → 0 < length whole → Digits whole → Digits fraction → digits_value 10 whole < 10 ^ 6
    → duration_of text ≡ Ok (digits_value 10 whole * 10 ^ 9 + digits_value 10 (nine_digits fraction))
denotes text whole fraction p q some first a b small = grind arith

pub text_whole : (n : ℕ) → n % 10 ^ 9 ≡ 0 → duration_text n ≡ decimal (n / 10 ^ 9)
text_whole n e = grind (arith, nat_tests, append-nil, decimal)

text_parts : (n : ℕ) → 0 < n % 10 ^ 9 → duration_text n ≡ decimal (n / 10 ^ 9) ++ 46 ∷ fraction_digits 9 (n % 10 ^ 9)
text_parts n pos = let some : (n % 10 ^ 9 == 0) ≡ false = grind (arith, nat_tests) in rw some refl

pub read_again : (n : ℕ) → n < 10 ^ 15 → duration_of (duration_text n) ≡ Ok n
read_again n h =
    let seconds = n / 10 ^ 9 in
    let f = n % 10 ^ 9 in
    let whole = decimal seconds in
    let small : seconds < 2 ^ 64 = omega arith in
    let digits : Digits whole = digits_decimal by_value seconds small in
    let value : digits_value 10 whole ≡ seconds = digits_value-decimal by_value seconds small in
    let first = decimal_nonempty seconds small in
    let low : digits_value 10 whole < 10 ^ 6 = omega arith in
    elim (cases_lt 0 f) [
      | inl pos ↦
          let fraction = fraction_digits 9 f in
          let parts = whole_first whole fraction digits in
          let nanos = fraction_value f (omega arith) in
          let sum : digits_value 10 whole * 10 ^ 9 + digits_value 10 (nine_digits fraction) ≡ n = omega (arith, nanos) in
          rw (text_parts n pos) (denotes (whole ++ 46 ∷ fraction) whole fraction parts.0 parts.1 (omega (arith, length-append whole (46 ∷ fraction))) first digits (digits_fraction 9 f (omega arith)) low ∙ ap Ok sum)
      | inr none ↦
          let parts = whole_alone whole digits in
          let e : f ≡ 0 = omega arith in
          let sum : digits_value 10 whole * 10 ^ 9 + 0 ≡ n = omega arith in
          rw (text_whole n e) (denotes whole whole [] parts.0 parts.1 first first digits refl low ∙ ap Ok sum)
    ]
