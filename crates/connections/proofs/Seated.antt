-- The places of all seats.
use Rattle.std.proofs.Common.{◌≡◌, ℕ, ◌+◌, ◌-◌, ◌<◌, ◌≤◌, suc, List, [], ◌∷◌, ◌++◌, refl, subst, sym, arith, append_assoc}
use Rattle.std.proofs.lemmas.List.{append-nil}
use Rattle.connections.specs.Seats.{places_below}

one_below : (n : ℕ) → places_below (suc n) ≡ n ∷ places_below n
unfolding places_below
one_below n = refl

none_below : places_below 0 ≡ []
unfolding places_below
none_below = refl

below : (m n : ℕ) → m ≡ suc n → places_below m ≡ n ∷ places_below n
below m n e = subst (λ k. places_below k ≡ n ∷ places_below n) (sym e) (one_below n)

-- one seat more
pub one_more : (most i : ℕ) (items pushed all : List ℕ) → i < most → pushed ≡ items ++ (most - 1 - i) ∷ [] → items ++ places_below (most - i) ≡ all
    → pushed ++ places_below (most - (i + 1)) ≡ all
one_more most i items pushed all lt p h = grind (arith, append_assoc, below)

-- and no more
pub all_there : (most i : ℕ) (items all : List ℕ) → most ≤ i → items ++ places_below (most - i) ≡ all → items ≡ all
all_there most i items all le h = grind (arith, append-nil, none_below)
