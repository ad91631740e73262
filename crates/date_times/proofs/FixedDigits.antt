-- Numbers in a fixed number of digits: their last ones, and what they are read as.
use Rattle.std.proofs.Common.{◌≡◌, ℕ, zero, suc, ◌+◌, ◌*◌, ◌<◌, ◌≤◌, ◌/◌, ◌%◌, ◌^◌, List, [], ◌∷◌, ◌++◌, length, true, refl, ap, ◌∙◌, subst, arith, length-append, append_assoc}
use Rattle.std.specs.List.{list_all}
use Rattle.std.specs.Char.{is_ascii_digit, digit_value}
use Rattle.std.specs.Str.Parse.{digits_value, AllDigits}
use Rattle.std.specs.Fmt.{digit_glyph}
use Rattle.std.proofs.Math.Nat.{div-lt_iff_lt-mul, pow-suc, pow-zero, mul_comm}
use Rattle.std.proofs.lemmas.Bool.{and_from}
use Rattle.std.proofs.lemmas.Bool.Decides.{nat_tests}
use Rattle.std.proofs.lemmas.Int.Digits.{digits_value_push, digits_push}
use Rattle.date_times.specs.Digits.{fixed_digits}

-- ---- two digits at the end

pub last_two : (base k n : ℕ) → fixed_digits base (suc (suc k)) n ≡ fixed_digits base k (n / base / base) ++ fixed_digits base 2 n
unfolding fixed_digits
last_two base k n = append_assoc (fixed_digits base k (n / base / base)) (digit_glyph true (n / base % base) ∷ []) (digit_glyph true (n % base) ∷ [])

pub last_three : (n : ℕ) → fixed_digits 10 3 n ≡ (digit_glyph true (n / 100 % 10) ∷ []) ++ fixed_digits 10 2 n
unfolding fixed_digits
last_three n = grind arith

pub last_four : (n : ℕ) → fixed_digits 10 4 n ≡ fixed_digits 10 2 (n / 100) ++ fixed_digits 10 2 n
last_four n =
    let hundreds : n / 10 / 10 ≡ n / 100 = omega arith in
    last_two 10 2 n ∙ ap (λ m. fixed_digits 10 2 m ++ fixed_digits 10 2 n) hundreds

glyph_value : (d : ℕ) → d < 16 → digit_value (digit_glyph true d) ≡ d
glyph_value d h = grind (arith, nat_tests)

-- the digits write the number
pub record IsFixed (base k n : ℕ) : Type 0 where
  pub value : digits_value base (fixed_digits base k n) ≡ n
  pub all : AllDigits base (fixed_digits base k n)
  pub size : length (fixed_digits base k n) ≡ k

whole : (n base : ℕ) → 0 < base → n / base * base + n % base ≡ n
whole n base h = omega (arith, mul_comm (n / base) base)

zero_value : (n : ℕ) → n < 1 → 0 ≡ n
zero_value n h = omega arith

pub fixed : (base k n : ℕ) → 2 ≤ base → base ≤ 16 → n < base ^ k → IsFixed base k n
unfolding fixed_digits
fixed base zero n l h s = record { value = zero_value n (subst (λ m. n < m) (pow-zero base) s); all = tt; size = refl }
fixed base (suc k) n l h s =
    let small : (n / base) < (base ^ k) = (div-lt_iff_lt-mul (omega arith)).1 (subst (λ m. n < m) (pow-suc base k) s) in
    let f = fixed base k (n / base) l h small in
    let d : n % base < base = omega arith in
    let g = glyph_value (n % base) (omega arith) in record {
      value = digits_value_push base (fixed_digits base k (n / base)) (digit_glyph true (n % base)) ∙ ap (λ v. v * base + digit_value (digit_glyph true (n % base))) f.value ∙ ap (λ v. n / base * base + v) g ∙ whole n base (omega arith);
      all = digits_push base _ _ f.all (omega (arith, g));
      size = length-append (fixed_digits base k (n / base)) _ ∙ omega (arith, f.size);
    }

own_digit : (c : ℕ) → digit_value c < 10 → is_ascii_digit c ≡ true
own_digit c h = grind (arith, nat_tests)

pub are_own : (digits : List ℕ) → AllDigits 10 digits → list_all is_ascii_digit digits ≡ true
are_own [] h = refl
are_own (c ∷ digits) h = and_from _ _ (own_digit c h.0) (are_own digits h.1)
