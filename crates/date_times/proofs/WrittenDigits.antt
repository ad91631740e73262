-- Digits as they are written: in twos and threes, by a table, and all of them ASCII.
use Rattle.std.proofs.Common.{◌≡◌, ℕ, zero, suc, Bool, get_or, sym, inl, inr, ◌+◌, ◌*◌, ◌<◌, ◌/◌, ◌%◌, [], ◌∷◌, ◌++◌, true, refl, ap, ◌∙◌, subst, arith, append_assoc}
use Rattle.std.specs.Fmt.{digit_glyph}
use Rattle.std.proofs.lemmas.Bool.{and_parts, cases_lt, eqb-true}
use Rattle.std.proofs.lemmas.Str.Ascii.{IsAscii-nil, IsAscii-push}
use Rattle.std.specs.Prelude.{◌==◌, ◌&&◌, IsAscii}
use Rattle.date_times.specs.declared.writing.TheConstants.{PAIRS}
use Rattle.std.proofs.lemmas.Bool.Decides.{nat_tests}
use Rattle.date_times.specs.Digits.{fixed_digits}
use Rattle.date_times.proofs.FixedDigits.{last_three, last_four}

-- so many digits, and three more
last_digits : (k n : ℕ) → fixed_digits 10 (suc (suc (suc k))) n ≡ fixed_digits 10 k (n / 1000) ++ fixed_digits 10 3 n
unfolding fixed_digits
last_digits k n = grind (arith, append_assoc)

-- digits go by what is left of the number
pub two_left : (n : ℕ) → fixed_digits 10 2 (n % 100) ≡ fixed_digits 10 2 n
unfolding fixed_digits
two_left n = grind arith

three_left : (n : ℕ) → fixed_digits 10 3 (n % 1000) ≡ fixed_digits 10 3 n
unfolding fixed_digits
three_left n = grind arith

pub in_three : (n : ℕ) → n < 1000 → (48 + n / 100) ∷ fixed_digits 10 2 (n % 100) ≡ fixed_digits 10 3 n
in_three n h = grind (arith, last_three, two_left)

pub in_four : (n : ℕ) → fixed_digits 10 2 (n / 100) ++ fixed_digits 10 2 (n % 100) ≡ fixed_digits 10 4 n
in_four n = ap (λ x. fixed_digits 10 2 (n / 100) ++ x) (two_left n) ∙ sym (last_four n)

pub in_nine : (n : ℕ) → fixed_digits 10 3 (n / 1000000) ++ (fixed_digits 10 3 (n / 1000 % 1000) ++ fixed_digits 10 3 (n % 1000)) ≡ fixed_digits 10 9 n
in_nine n =
    let millions : n / 1000000 ≡ n / 1000 / 1000 = omega arith in
    let a = fixed_digits 10 3 (n / 1000000) in
    ap (λ x. a ++ (x ++ fixed_digits 10 3 (n % 1000))) (three_left (n / 1000)) ∙ ap (λ x. a ++ (fixed_digits 10 3 (n / 1000) ++ x)) (three_left n)
    ∙ ap (λ m. fixed_digits 10 3 m ++ (fixed_digits 10 3 (n / 1000) ++ fixed_digits 10 3 n)) millions
    ∙ sym (append_assoc (fixed_digits 10 3 (n / 1000 / 1000)) (fixed_digits 10 3 (n / 1000)) (fixed_digits 10 3 n))
    ∙ ap (λ x. x ++ fixed_digits 10 3 n) (sym (last_digits 3 (n / 1000))) ∙ sym (last_digits 6 n)

-- ---- the table of two digits

abbrev is_pair : ℕ → Bool
is_pair n = get_or PAIRS (n * 2) 0 == digit_glyph true (n / 10 % 10) && get_or PAIRS (n * 2 + 1) 0 == digit_glyph true (n % 10)

abbrev are_pairs : ℕ → Bool
are_pairs zero = true
are_pairs (suc n) = is_pair n && are_pairs n

pair_at : (k n : ℕ) → are_pairs k ≡ true → n < k → is_pair n ≡ true
pair_at zero n t h = absurd (omega arith)
pair_at (suc k) n t h =
    let parts = and_parts (is_pair k) (are_pairs k) t in
    elim (cases_lt n k) [
      | inl less ↦ pair_at k n parts.1 less
      | inr same ↦ let e : k ≡ n = omega (arith, h, same) in subst (λ n. is_pair n ≡ true) e parts.0
    ]

pub in_table : (n : ℕ) → n < 100 → get_or PAIRS (n * 2) 0 ∷ get_or PAIRS (n * 2 + 1) 0 ∷ [] ≡ fixed_digits 10 2 n
unfolding fixed_digits
in_table n h =
    let parts = and_parts _ _ (pair_at 100 n refl h) in
    ap (λ x. x ∷ get_or PAIRS (n * 2 + 1) 0 ∷ []) (eqb-true _ _ parts.0) ∙ ap (λ x. digit_glyph true (n / 10 % 10) ∷ x ∷ []) (eqb-true _ _ parts.1)

-- ---- each digit is ASCII

glyph_ascii : (d : ℕ) → d < 16 → digit_glyph true d < 128
glyph_ascii d h = grind (arith, nat_tests)

pub fixed_ascii : (k n : ℕ) → IsAscii (fixed_digits 10 k n)
unfolding fixed_digits
fixed_ascii zero n = IsAscii-nil
fixed_ascii (suc k) n = IsAscii-push (fixed_digits 10 k (n / 10)) _ (fixed_ascii k (n / 10)) (glyph_ascii (n % 10) (omega arith))
