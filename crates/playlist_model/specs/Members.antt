-- The values of a list by their places.
use Rattle.std.specs.Prelude.{ℕ, zero, suc, ◌<◌, false, List, [], ◌∷◌, length, Option, Some, None, IsTrue, refl}
use Rattle.std.specs.List.{slice_get}
use Rattle.std.specs.Option.{is_some}
use Rattle.std.proofs.Common.{arith}

pub none_found : IsTrue false → ⊥
none_found h = cc h

-- the value that was found
abbrev pub found_value : {X : Type 0} (found : Option X) → IsTrue (is_some found) → X
found_value None h = absurd (none_found h)
found_value (Some x) h = x

-- a place within a list has a value
pub has_value : {X : Type 0} (xs : List X) (place : ℕ) → place < length xs → IsTrue (is_some (slice_get xs place))
has_value [] place within = absurd (omega (arith, within))
has_value (x ∷ xs) zero within = refl
has_value (x ∷ xs) (suc place) within = let below : place < length xs = omega (arith, within) in has_value xs place below

-- the value at a place within a list
abbrev pub value_at : {X : Type 0} (xs : List X) (place : ℕ) → place < length xs → X
value_at xs place within = found_value (slice_get xs place) (has_value xs place within)
