-- The seats: one for each place.
use Rattle.std.specs.Prelude.{ℕ, zero, suc, List, [], ◌∷◌}

-- the places below a number, each once, the last first
unfoldable pub places_below : ℕ → List ℕ
places_below zero = []
places_below (suc n) = n ∷ places_below n
