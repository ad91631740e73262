-- What is left of a list from a place on.
use Rattle.std.proofs.Common.{◌≡◌, ℕ, ◌+◌, ◌<◌, zero, suc, List, [], ◌∷◌, drop, length, refl, sym, ap, ◌∙◌, arith, Some, None}
use Rattle.std.specs.Prelude.{Option, IsTrue}
use Rattle.std.specs.List.{slice_get}
use Rattle.std.specs.Option.{is_some}
use Rattle.playlist_model.specs.Members.{found_value, value_at, has_value}

value_found : {X : Type 0} (found : Option X) (h : IsTrue (is_some found)) (x : X) → found ≡ Some x → found_value found h ≡ x
value_found None h x e = absurd (cc e)
value_found (Some y) h x e = cc e

first_left : {X : Type 0} (xs : List X) (place : ℕ) → place < length xs → (x : X) × (slice_get xs place ≡ Some x) × (drop place xs ≡ x ∷ drop (place + 1) xs)
first_left [] place within = absurd (omega (arith, within))
first_left (x ∷ xs) zero within = (x, refl, refl)
first_left (x ∷ xs) (suc place) within =
    let below : place < length xs = omega (arith, within) in
    let left = first_left xs place below in
    let next : suc (place + 1) ≡ suc place + 1 = omega arith in
    (left.0, left.1, left.2 ∙ ap (λ k. left.0 ∷ drop k (x ∷ xs)) next)

-- the value at a place of an equal list stands before the rest
pub value_before_rest : {X : Type 0} (xs ys : List X) (place : ℕ) (within : place < length ys) → ys ≡ xs
    → drop place xs ≡ value_at ys place within ∷ drop (place + 1) xs
value_before_rest xs ys place within e =
    let left = first_left ys place within in
    let here = value_found (slice_get ys place) (has_value ys place within) left.0 left.1 in
    ap (drop place) (sym e) ∙ left.2 ∙ ap (λ x. x ∷ drop (place + 1) ys) (sym here) ∙ ap (λ l. value_at ys place within ∷ drop (place + 1) l) e

-- the value that is got at a place is the one there
pub value_got : {X : Type 0} (xs : List X) (place : ℕ) (within : place < length xs) (x : X) → slice_get xs place ≡ Some x → x ≡ value_at xs place within
value_got xs place within x e = sym (value_found (slice_get xs place) (has_value xs place within) x e)
