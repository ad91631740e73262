-- Tests of all elements of a list.
use Rattle.std.proofs.Common.{◌≡◌, ℕ, ◌+◌, ◌<◌, Bool, true, false, not, cond, List, [], ◌∷◌, length, refl, ◌∙◌, arith}
use Rattle.std.specs.Prelude.{filter, ◌||◌}
use Rattle.std.specs.List.{list_any, list_all, position_or_len}
use Rattle.std.proofs.lemmas.Bool.{and_parts, and_from}

module _ {X : Type 0} where
  pub all_with : (p q r : X → Bool) (xs : List X) → list_all p xs ≡ true → list_all q xs ≡ true → ((x : X) → p x ≡ true → q x ≡ true → r x ≡ true) → list_all r xs ≡ true
  all_with p q r [] h g f = refl
  all_with p q r (x ∷ xs) h g f =
      let a = and_parts _ _ h in let b = and_parts _ _ g in and_from _ _ (f x a.0 b.0) (all_with p q r xs a.1 b.1 f)

  filter_step : (p q : X → Bool) (x : X) (xs : List X) (b : Bool) → p x ≡ true → list_all p (filter q xs) ≡ true → list_all p (cond b (x ∷ filter q xs) (filter q xs)) ≡ true
  filter_step p q x xs true h g = and_from _ _ h g
  filter_step p q x xs false h g = g

  pub all_filter : (p q : X → Bool) (xs : List X) → list_all p xs ≡ true → list_all p (filter q xs) ≡ true
  all_filter p q [] h = refl
  all_filter p q (x ∷ xs) h = let a = and_parts _ _ h in filter_step p q x xs (q x) a.0 (all_filter p q xs a.1)

  pub filter_like : (p q r : X → Bool) (xs : List X) → list_all p xs ≡ true → ((x : X) → p x ≡ true → q x ≡ r x) → filter q xs ≡ filter r xs
  filter_like p q r [] h f = refl
  filter_like p q r (x ∷ xs) h f =
      let a = and_parts _ _ h in let e = f x a.0 in let t = filter_like p q r xs a.1 f in rw (e, t) refl

  pub filter_all : (p q : X → Bool) (xs : List X) → list_all p xs ≡ true → ((x : X) → p x ≡ true → q x ≡ true) → filter q xs ≡ xs
  filter_all p q [] h f = refl
  filter_all p q (x ∷ xs) h f =
      let a = and_parts _ _ h in let e = f x a.0 in let t = filter_all p q xs a.1 f in rw (e, t) refl

  pub filter_none : (p q : X → Bool) (xs : List X) → list_all p xs ≡ true → ((x : X) → p x ≡ true → q x ≡ false) → filter q xs ≡ []
  filter_none p q [] h f = refl
  filter_none p q (x ∷ xs) h f =
      let a = and_parts _ _ h in let e = f x a.0 in rw e (filter_none p q xs a.1 f)

  -- an element passes exactly if the first place that passes is within the list
  passes_at : (xs : List X) (n : ℕ) (any b : Bool) → (n ≡ length xs → any ≡ false) → cond (not b) (1 + n) 0 ≡ 1 + length xs → (b || any) ≡ false
  passes_at xs n any true ih e = absurd (omega (arith, e))
  passes_at xs n any false ih e = ih (omega (arith, e))

  pub none_passes : (p : X → Bool) (xs : List X) → position_or_len p xs ≡ length xs → list_any p xs ≡ false
  none_passes p [] h = refl
  none_passes p (x ∷ xs) h = passes_at xs (position_or_len p xs) (list_any p xs) (p x) (none_passes p xs) (h ∙ omega arith)

  passes_within : (xs : List X) (n : ℕ) (any b : Bool) → (n < length xs → any ≡ true) → cond (not b) (1 + n) 0 < 1 + length xs → (b || any) ≡ true
  passes_within xs n any true ih e = refl
  passes_within xs n any false ih e = ih (omega (arith, e))

  pub some_passes : (p : X → Bool) (xs : List X) → position_or_len p xs < length xs → list_any p xs ≡ true
  some_passes p [] h = absurd (omega (arith, h))
  some_passes p (x ∷ xs) h = passes_within xs (position_or_len p xs) (list_any p xs) (p x) (some_passes p xs) (omega (arith, h))
