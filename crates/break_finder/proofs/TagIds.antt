-- Lists that are chosen from by tests that agree.
use Rattle.std.proofs.Common.{◌≡◌, Bool, true, false, cond, ◌||◌, List, [], ◌∷◌, filter, refl, ap, ◌∙◌}

pub or_grouped : (a b c : Bool) → ((a || b) || c) ≡ (a || (b || c))
or_grouped true b c = refl
or_grouped false b c = refl

module _ {A : Type 0} (p q : A → Bool) (same : (x : A) → p x ≡ q x) where
  pub filter_same : (xs : List A) → filter p xs ≡ filter q xs
  filter_same [] = refl
  filter_same (x ∷ xs) = ap (λ b. cond b (x ∷ filter p xs) (filter p xs)) (same x) ∙ ap (λ ys. cond (q x) (x ∷ ys) ys) (filter_same xs)
