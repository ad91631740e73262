-- Hexadecimal digits as they are written: from the last one on, over zeros. All of them are ASCII.
use Rattle.std.proofs.Common.{◌≡◌, ℕ, zero, suc, ◌+◌, ◌<◌, ◌≤◌, ◌/◌, ◌%◌, List, [], ◌∷◌, ◌++◌, length, take, drop, replicate, slice_set, true, refl, ap, ◌∙◌, sym, arith, append_assoc}
use Rattle.std.specs.Prelude.{IsAscii}
use Rattle.std.specs.Fmt.{digit_glyph}
use Rattle.std.proofs.lemmas.Bool.Decides.{nat_tests}
use Rattle.std.proofs.lemmas.List.{drop-set, take-set, take-take, take-replicate, replicate-append-replicate, take-append-drop}
use Rattle.std.proofs.lemmas.Str.Ascii.{IsAscii-nil, IsAscii-push}
use Rattle.date_times.specs.Digits.{fixed_digits}

digits_of_zero : (k : ℕ) → fixed_digits 16 k 0 ≡ replicate k 48
unfolding fixed_digits
digits_of_zero zero = refl
digits_of_zero (suc k) =
    let more : k + 1 ≡ suc k = omega arith in
    ap (λ d. d ++ 48 ∷ []) (digits_of_zero k) ∙ replicate-append-replicate k 1 48 ∙ ap (λ n. replicate {A = ℕ} n 48) more

-- once nothing is left of the number, the zeros in front are its digits
pub zeros_in_front : (at left : ℕ) (digits : List ℕ) → left ≡ 0 → take at digits ≡ replicate at 48 → fixed_digits 16 at left ++ drop at digits ≡ digits
zeros_in_front at left digits none zeros =
    ap (λ n. fixed_digits 16 at n ++ drop at digits) none ∙ ap (λ d. d ++ drop at digits) (digits_of_zero at ∙ sym zeros) ∙ take-append-drop at digits

-- one digit more is written in front of those that are
pub last_digit : (k at left mark : ℕ) (digits : List ℕ) → at ≡ suc k → k < length digits → mark ≡ digit_glyph true (left % 16)
    → fixed_digits 16 at left ++ drop at digits ≡ fixed_digits 16 k (left / 16) ++ drop k (slice_set digits k mark)
unfolding fixed_digits
last_digit k at left mark digits e h m =
    let more : k + 1 ≡ suc k = omega arith in
    ap (λ n. fixed_digits 16 n left ++ drop n digits) e
    ∙ append_assoc (fixed_digits 16 k (left / 16)) (digit_glyph true (left % 16) ∷ []) (drop (suc k) digits)
    ∙ ap (λ d. fixed_digits 16 k (left / 16) ++ d ∷ drop (suc k) digits) (sym m)
    ∙ ap (λ n. fixed_digits 16 k (left / 16) ++ mark ∷ drop n digits) (sym more)
    ∙ ap (λ d. fixed_digits 16 k (left / 16) ++ d) (sym (drop-set digits k mark h))

pub zeros_before : (k at mark : ℕ) (digits : List ℕ) → k ≤ at → take at digits ≡ replicate at 48 → take k (slice_set digits k mark) ≡ replicate k 48
zeros_before k at mark digits less zeros =
    take-set digits k mark ∙ sym (take-take k at digits less) ∙ ap (take k) zeros ∙ take-replicate k at 48 less

glyph_ascii : (d : ℕ) → d < 16 → digit_glyph true d < 128
glyph_ascii d h = grind (arith, nat_tests)

pub digits_ascii : (k n : ℕ) → IsAscii (fixed_digits 16 k n)
unfolding fixed_digits
digits_ascii zero n = IsAscii-nil
digits_ascii (suc k) n = IsAscii-push (fixed_digits 16 k (n / 16)) _ (digits_ascii k (n / 16)) (glyph_ascii (n % 16) (omega arith))
