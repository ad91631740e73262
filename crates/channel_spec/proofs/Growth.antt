-- The stitched list only grows.
use Rattle.std.proofs.Common.{◌≡◌, cond, List, [], ◌∷◌, ◌++◌, refl, ap, sym, ◌∙◌, append_assoc}
use Rattle.playlist_model.specs.Segments.{Segment}
use Rattle.pod_store.specs.Marks.{Marked, continues}
use Rattle.channel_spec.specs.Marking.{Moment, next_shown, show_all}
use Rattle.stitcher.specs.Stitched.{Piece, Numbers, stitched, run_pieces, numbers_at, first_numbers, numbered}
use Rattle.channel_spec.specs.LiveLaws.{GoesOn}

pub goes_nowhere : {A : Type 0} (xs : List A) → GoesOn xs xs
goes_nowhere xs = ([], refl)

pub goes_on_through : {A : Type 0} (xs ys zs : List A) → GoesOn xs ys → GoesOn ys zs → GoesOn xs zs
goes_on_through xs ys zs (a, p) (b, q) = (b ++ a, q ∙ ap (λ t. b ++ t) p ∙ sym (append_assoc b a xs))

-- the history only grows
pub history_grows : (m : Moment) (history : List Marked) (segments : List Segment) → GoesOn history (show_all m history segments)
history_grows m history [] = goes_nowhere history
history_grows m history (s ∷ later) =
    let here = next_shown m history s later in
    goes_on_through history (here ∷ history) (show_all m (here ∷ history) later) (here ∷ [], refl) (history_grows m (here ∷ history) later)

-- what stands after is as it was
pub stitched_grows : (more history : List Marked) → GoesOn (stitched history) (stitched (more ++ history))
stitched_grows [] history = goes_nowhere (stitched history)
stitched_grows (s ∷ more) history =
    let here = cond (continues s (more ++ history)) [] (run_pieces s s.mark) in
    goes_on_through (stitched history) (stitched (more ++ history)) (stitched (s ∷ (more ++ history))) (stitched_grows more history) (here, refl)

pub numbered_grows : (first : Numbers) (more pieces : List Piece) → GoesOn (numbered first pieces) (numbered first (more ++ pieces))
numbered_grows first [] pieces = goes_nowhere (numbered first pieces)
numbered_grows first (p ∷ more) pieces =
    goes_on_through (numbered first pieces) (numbered first (more ++ pieces)) (numbered first (p ∷ (more ++ pieces)))
    (numbered_grows first more pieces) (record { piece = p; numbers = numbers_at first p (more ++ pieces) } ∷ [], refl)

pub first_numbers_stay : (more : List Marked) (s : Marked) (before : List Marked) → first_numbers (more ++ (s ∷ before)) ≡ first_numbers (s ∷ before)
first_numbers_stay [] s before = refl
first_numbers_stay (x ∷ []) s before = refl
first_numbers_stay (x ∷ y ∷ more) s before = first_numbers_stay (y ∷ more) s before
