-- Tests of all elements of a list.
use Rattle.std.proofs.Common.{◌≡◌, Bool, true, false, List, [], ◌∷◌, refl}
use Rattle.std.specs.List.{list_any, list_all}
use Rattle.std.proofs.lemmas.Bool.{and_parts, or_parts, and_from, or_from}

module _ {X : Type 0} where
  pub all_from : (p r : X → Bool) (xs : List X) → list_all p xs ≡ true → ((x : X) → p x ≡ true → r x ≡ true) → list_all r xs ≡ true
  all_from p r [] h f = refl
  all_from p r (x ∷ xs) h f = let a = and_parts _ _ h in and_from _ _ (f x a.0) (all_from p r xs a.1 f)

  pub none_from : (p r : X → Bool) (xs : List X) → list_all p xs ≡ true → ((x : X) → p x ≡ true → r x ≡ false) → list_any r xs ≡ false
  none_from p r [] h f = refl
  none_from p r (x ∷ xs) h f = let a = and_parts _ _ h in or_from _ _ (f x a.0) (none_from p r xs a.1 f)

  pub fewer : (p r : X → Bool) (xs : List X) → list_any p xs ≡ false → ((x : X) → p x ≡ false → r x ≡ false) → list_any r xs ≡ false
  fewer p r [] h f = refl
  fewer p r (x ∷ xs) h f = let a = or_parts _ _ h in or_from _ _ (f x a.0) (fewer p r xs a.1 f)
