-- The place of the newest segment, counted from the oldest on.
use Rattle.std.proofs.Common.{◌≡◌, ℕ, ◌+◌, Bool, true, false, cond, List, [], ◌∷◌, ◌++◌, map, length, refl, ap, ◌∙◌, arith, length-append}
use Rattle.std.specs.Prelude.{Option, Some, None, IsSome, bytes_eq}
use mathlib.Core.List.{reverse_aux}
use Rattle.pod_store.specs.Pods.{Pod}
use Rattle.pod_store.specs.Marks.{Marked, newest_mark, are_one, mark_with, mark_in}
use Rattle.stitcher.specs.Stitched.{stitched, run_pieces, newest_place}
use Rattle.pod_store.specs.Store.{Store, pod_for}
use Rattle.stitcher.specs.declared.marked.MarkedSegment.{MarkedSegment as Held}
use Rattle.stitcher.specs.StitchedSegments.{meant, IsDecided, AreDecided}
use Rattle.stitcher.specs.Making.{is_same_stitched_run, begun, pod_with}
use Rattle.channel_spec.proofs.Windows.{length-reverse}
use Rattle.channel_window.specs.Marking.{place_on}
use Rattle.channel_window.specs.MarkingLaws.{PlaceIsCounted}

alone : (id : List ℕ) (o : Option Pod) → IsSome o → are_one (mark_with id o) None ≡ false
alone id None h = absurd (cc)
alone id (Some pod) h = refl

both : (id other : List ℕ) (o p : Option Pod) → IsSome o → IsSome p → are_one (mark_with id o) (mark_with other p) ≡ bytes_eq id other
both id other None p h k = absurd (cc)
both id other (Some pod) None h k = absurd (cc)
both id other (Some pod) (Some q) h k = refl

pub same_run : (store : Store) (mark previous : Option (List ℕ)) → IsDecided store mark → IsDecided store previous
    → are_one (mark_in store mark) (mark_in store previous) ≡ is_same_stitched_run mark previous
same_run store mark previous h k = grind arith

pod_long : (store : Store) (m : Held) (id : List ℕ) (o : Option Pod) → IsSome o → length (run_pieces (meant store m) (mark_with id o)) ≡ length (pod_with id o)
pod_long store m id None h = absurd (cc)
pod_long store m id (Some pod) h = length-reverse (pod_with id (Some pod))

long : (store : Store) (m : Held) (mark : Option (List ℕ)) → IsDecided store mark → length (run_pieces (meant store m) (mark_in store mark)) ≡ length (begun store m mark)
long store m None h = refl
long store m (Some id) h = pod_long store m id (pod_for store id) h

counted_on : (store : Store) (previous : Option (List ℕ)) (before : List Marked) (held : List Held) → newest_mark before ≡ mark_in store previous → IsDecided store previous → AreDecided store held
    → newest_place (reverse_aux (map (meant store) held) before) ≡ place_on store previous (newest_place before) (length (stitched before)) held
counted_on store previous before [] h k d = refl
counted_on store previous before (m ∷ later) h k d =
    counted_on store m.mark (meant store m ∷ before) later refl d.0 d.1
    ∙ step (is_same_stitched_run m.mark previous) (ap (are_one (mark_in store m.mark)) h ∙ same_run store m.mark previous d.0 k)
  where
    step : (b : Bool) → are_one (mark_in store m.mark) (newest_mark before) ≡ b
        → place_on store m.mark (newest_place (meant store m ∷ before)) (length (stitched (meant store m ∷ before))) later
        ≡ cond b (place_on store m.mark (newest_place before) (length (stitched before)) later) (place_on store m.mark (length (stitched before)) (length (stitched before) + length (begun store m m.mark)) later)
    step true e =
        ap (λ b. place_on store m.mark (cond b (newest_place before) (length (stitched before))) (length (cond b [] (run_pieces (meant store m) (mark_in store m.mark)) ++ stitched before)) later) e
    step false e =
        let run = run_pieces (meant store m) (mark_in store m.mark) in
        let size : length (run ++ stitched before) ≡ length (stitched before) + length (begun store m m.mark) = omega (arith, length-append run (stitched before), long store m m.mark d.0) in
        ap (λ b. place_on store m.mark (cond b (newest_place before) (length (stitched before))) (length (cond b [] run ++ stitched before)) later) e
        ∙ ap (λ n. place_on store m.mark (length (stitched before)) n later) size

pub place_is_counted : PlaceIsCounted
place_is_counted store held d = counted_on store None [] held refl tt d
