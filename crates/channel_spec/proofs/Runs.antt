-- The newest run of a history.
use Rattle.std.proofs.Common.{◌≡◌, Bool, true, false, cond, List, [], ◌∷◌, ◌++◌, length, refl, arith}
use Rattle.pod_store.specs.Marks.{Marked, continues}
use Rattle.stitcher.specs.Stitched.{run_pieces, stitched, newest_place}
use Rattle.stitcher.specs.Paced.{first_of_run, older}

pub nothing_continues : (s : Marked) → continues s [] ≡ false
nothing_continues s = grind arith

split_step : (s t : Marked) (before : List Marked) (b : Bool)
    → stitched (t ∷ before) ≡ run_pieces (first_of_run t before) (first_of_run t before).mark ++ stitched (older (t ∷ before))
    → cond b [] (run_pieces s s.mark) ++ stitched (t ∷ before)
    ≡ run_pieces (cond b (first_of_run t before) s) (cond b (first_of_run t before) s).mark ++ stitched (cond b (older (t ∷ before)) (t ∷ before))
split_step s t before true e = e
split_step s t before false e = refl

-- the list ends in the pod of the newest run
pub newest_item : (s : Marked) (before : List Marked) → stitched (s ∷ before) ≡ run_pieces (first_of_run s before) (first_of_run s before).mark ++ stitched (older (s ∷ before))
newest_item s [] = rw (nothing_continues s) refl
newest_item s (t ∷ before) = split_step s t before (continues s (t ∷ before)) (newest_item t before)

pub place_is : (history : List Marked) → newest_place history ≡ length (stitched (older history))
place_is [] = refl
place_is (s ∷ before) = grind (arith, place_is before)
