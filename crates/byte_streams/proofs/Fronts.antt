-- What was taken of bytes, and what is left.
use Rattle.std.proofs.Common.{◌≡◌, ℕ, ◌+◌, ◌-◌, ◌≤◌, List, [], ◌∷◌, ◌++◌, take, length, refl, ap, sym, ◌∙◌, arith, suc, None, Some}
use Rattle.std.proofs.lemmas.List.{take_at}
use Rattle.std.specs.Prelude.{Option}

-- what was taken and what is left are what there was, if it is known
abbrev pub Joins : Option (List ℕ) → Option (List ℕ) → List ℕ → List ℕ → Type 0
Joins None new rest bytes = Unit {0}
Joins (Some old) None rest bytes = ⊥
Joins (Some old) (Some new) rest bytes = (new ++ rest ≡ old ++ bytes) × (length old ≤ length new)

take_step : (x : ℕ) (ys : List ℕ) (k m : ℕ) → m ≡ suc k → take m (x ∷ ys) ≡ x ∷ take k ys
take_step x ys k m e = rw e refl

take_same : (k n : ℕ) (bytes : List ℕ) → k ≡ n → take k bytes ≡ take n bytes
take_same k n bytes e = rw e refl

take_after : (old bytes : List ℕ) (n : ℕ) → take (length old + n) (old ++ bytes) ≡ old ++ take n bytes
take_after [] bytes n = take_same (0 + n) n bytes (omega arith)
take_after (x ∷ xs) bytes n = take_step x (xs ++ bytes) (length xs + n) (length (x ∷ xs) + n) (omega arith) ∙ ap (λ ys. x ∷ ys) (take_after xs bytes n)

front : (old new rest bytes : List ℕ) → new ++ rest ≡ old ++ bytes → length old ≤ length new → new ≡ old ++ take (length new - length old) bytes
front old new rest bytes h l =
    let n : length old + (length new - length old) ≡ length new = omega arith in
    sym (take_at new rest (length new) refl) ∙ ap (take (length new)) h ∙ ap (λ k. take k (old ++ bytes)) (sym n) ∙ take_after old bytes (length new - length old)
