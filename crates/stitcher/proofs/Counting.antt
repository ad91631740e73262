-- The numbers of a list are counted on in the order of the playlist.
use Rattle.std.proofs.Common.{◌≡◌, ℕ, ◌-◌, Bool, true, false, cond, List, [], ◌∷◌, refl, arith}
use Rattle.std.specs.Prelude.{reverse, Some, None}
use mathlib.Core.List.{reverse_aux}
use Rattle.stitcher.specs.Stitched.{Piece, Numbers, numbers_at, numbered}
use Rattle.stitcher.specs.Inner.Making.{steps_back, last_of, counted}

same_back : (kept : Bool) (before discontinuity : ℕ) → cond kept (discontinuity - before) 1 ≡ steps_back (cond kept (Some before) None) discontinuity
same_back true before discontinuity = refl
same_back false before discontinuity = refl

-- after the numbers `n` of the newest, q
counted_on : (first : Numbers) (later : List Piece) (q : Piece) (before : List Piece)
    → numbered first (reverse_aux later (q ∷ before))
    ≡ reverse_aux (counted first (Some (last_of q (numbers_at first q before))) later) (numbered first (q ∷ before))
counted_on first [] q before = refl
counted_on first (p ∷ later) q before = grind (arith, counted_on first later p (q ∷ before))

pub numbers_count_on : (first : Numbers) (pieces : List Piece) → numbered first (reverse pieces) ≡ reverse (counted first None pieces)
numbers_count_on first [] = refl
numbers_count_on first (p ∷ later) = counted_on first later p []
