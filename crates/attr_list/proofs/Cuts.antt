-- Where a list is cut at the first element that passes a test.
use Rattle.std.proofs.Common.{◌≡◌, ℕ, suc, ◌+◌, ◌≤◌, Bool, true, false, not, cond, List, [], ◌∷◌, ◌++◌, take, drop, length, refl, ap, sym, ◌∙◌, arith, append_assoc, length-append}
use Rattle.std.specs.Prelude.{nat_lt, unwrap_or, Option, Some, None}
use Rattle.std.specs.List.{list_any, list_all, position_or_len, before_first, after_first}
use Rattle.std.proofs.lemmas.Bool.{or_parts, or_right, and_from, not-false}
use Rattle.std.proofs.lemmas.List.{take_at, drop_at, take_all, drop_all}

module _ {X : Type 0} where
  pub position_at : (p : X → Bool) (xs : List X) (y : X) (ys : List X) → list_any p xs ≡ false → p y ≡ true → position_or_len p (xs ++ y ∷ ys) ≡ length xs
  position_at p [] y ys h g = rw g refl
  position_at p (x ∷ xs) y ys h g =
      let a = or_parts _ _ h in let e : p x ≡ false = a.0 in rw e (ap (λ n. 1 + n) (position_at p xs y ys a.1 g) ∙ omega arith)

  pub before_at : (p : X → Bool) (xs : List X) (y : X) (ys : List X) → list_any p xs ≡ false → p y ≡ true → before_first p (xs ++ y ∷ ys) ≡ xs
  before_at p xs y ys h g = take_at xs (y ∷ ys) _ (sym (position_at p xs y ys h g))

  pub after_at : (p : X → Bool) (xs : List X) (y : X) (ys : List X) → list_any p xs ≡ false → p y ≡ true → after_first p (xs ++ y ∷ ys) ≡ ys
  after_at p xs y ys h g =
      ap (λ n. drop (n + 1) (xs ++ y ∷ ys)) (position_at p xs y ys h g) ∙ past xs y ys
    where
      past : (xs : List X) (y : X) (ys : List X) → drop (length xs + 1) (xs ++ y ∷ ys) ≡ ys
      past xs y ys = ap (λ l. drop (length xs + 1) l) (sym (append_assoc xs (y ∷ []) ys)) ∙ drop_at (xs ++ y ∷ []) ys (length xs + 1) (omega (arith, length-append xs (y ∷ [])))

  pub any_at : (p : X → Bool) (xs : List X) (y : X) (ys : List X) → p y ≡ true → list_any p (xs ++ y ∷ ys) ≡ true
  any_at p [] y ys g = rw g refl
  any_at p (x ∷ xs) y ys g = or_right _ _ (any_at p xs y ys g)

  pub position_none : (p : X → Bool) (xs : List X) → list_any p xs ≡ false → position_or_len p xs ≡ length xs
  position_none p [] h = refl
  position_none p (x ∷ xs) h = let a = or_parts _ _ h in let e : p x ≡ false = a.0 in rw e (ap (λ n. 1 + n) (position_none p xs a.1) ∙ omega arith)

  pub before_none : (p : X → Bool) (xs : List X) → list_any p xs ≡ false → before_first p xs ≡ xs
  before_none p xs h = let e = position_none p xs h in take_all _ xs (omega arith)

  pub after_none : (p : X → Bool) (xs : List X) → list_any p xs ≡ false → after_first p xs ≡ []
  after_none p xs h = let e = position_none p xs h in drop_all _ xs (omega arith)

  take_suc : (x : X) (xs : List X) (n : ℕ) → take (1 + n) (x ∷ xs) ≡ x ∷ take n xs
  take_suc x xs n = let e : 1 + n ≡ suc n = omega arith in ap (λ m. take m (x ∷ xs)) e

  drop_suc : (x : X) (xs : List X) (n : ℕ) → drop (1 + n) (x ∷ xs) ≡ drop n xs
  drop_suc x xs n = let e : 1 + n ≡ suc n = omega arith in ap (λ m. drop m (x ∷ xs)) e

  -- what is cut off a list whose front has no such element
  pub before_after : (p : X → Bool) (xs ys : List X) → list_any p xs ≡ false → before_first p (xs ++ ys) ≡ xs ++ before_first p ys
  before_after p [] ys h = refl
  before_after p (x ∷ xs) ys h =
      let a = or_parts _ _ h in let e : p x ≡ false = a.0 in rw e (take_suc x (xs ++ ys) _ ∙ ap (λ l. x ∷ l) (before_after p xs ys a.1))

  -- the two parts of a cut: no element of the first passes, and the second is empty or begins with one that does
  abbrev pub begins_with : (X → Bool) → List X → Bool
  begins_with p [] = true
  begins_with p (x ∷ xs) = p x

  pub before_has_none : (p : X → Bool) (xs : List X) → list_any p (before_first p xs) ≡ false
  before_has_none p [] = refl
  before_has_none p (x ∷ xs) = grind (arith, before_has_none p xs, take_suc)

  pub rest_begins : (p : X → Bool) (xs : List X) → begins_with p (drop (position_or_len p xs) xs) ≡ true
  rest_begins p [] = refl
  rest_begins p (x ∷ xs) = grind (arith, rest_begins p xs, drop_suc)

  pub list_any-none : (p : X → Bool) (xs : List X) → list_any (λ x. not (p x)) xs ≡ false → list_all p xs ≡ true
  list_any-none p [] h = refl
  list_any-none p (x ∷ xs) h = let a = or_parts _ _ h in and_from _ _ (not-false _ a.0) (list_any-none p xs a.1)

  pub position_le : (p : X → Bool) (xs : List X) → position_or_len p xs ≤ length xs
  position_le p [] = omega arith
  position_le p (x ∷ xs) = grind (arith, position_le p xs)

  -- `position(..).unwrap_or(len)`
  pub position_unwrapped : (p : X → Bool) (xs : List X) (r : Option ℕ) → r ≡ cond (nat_lt (position_or_len p xs) (length xs)) (Some (position_or_len p xs)) None → unwrap_or r (length xs) ≡ position_or_len p xs
  position_unwrapped p xs r e = grind (arith, position_le)
