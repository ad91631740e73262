-- The stitched list in the order of a playlist.
use Rattle.std.proofs.Common.{◌≡◌, ℕ, Bool, true, false, cond, ◌&&◌, List, [], ◌∷◌, ◌++◌, map, refl, ap, sym, ◌∙◌, append_assoc, arith}
use Rattle.std.specs.Prelude.{reverse, Option, Some, None, is_none, option_map, IsSome, bytes_eq}
use mathlib.Core.List.{reverse_aux}
use Rattle.std.proofs.lemmas.Grind.{reverse_onto}
use Rattle.std.proofs.lemmas.List.{reverse-reverse, reverse-append}
use Rattle.pod_store.specs.Pods.{Pod}
use Rattle.pod_store.specs.Marks.{Mark, newest_mark, are_one, continues, Marked as Meant, mark_with, mark_in}
use Rattle.stitcher.specs.Stitched.{Piece, Numbers, stitched, run_pieces}
use Rattle.stitcher.specs.Paced.{newest_pieces, due_with, or_zero, rest_pieces, stitched_with}
use Rattle.pod_store.specs.Store.{Store, pod_for}
use Rattle.stitcher.specs.declared.marked.MarkedSegment.{MarkedSegment}
use Rattle.stitcher.specs.declared.ends.Rest.{Rest}
use Rattle.stitcher.specs.declared.ends.Ends.{Ends}
use Rattle.stitcher.specs.Written.{written_item}
use Rattle.stitcher.specs.StitchedSegments.{meant, IsDecided, AreDecided, rest_from, rest_in, ends_in, stitched_segments}
use Rattle.stitcher.specs.Making.{is_same_stitched_run, pod_with}
use Rattle.stitcher.specs.Inner.Making.{counted, begun_with, pieces_in_part, part_due, whole_from, stitched_run_goes_on_to_last, pieces_at, pieces_on, pieces_of_rest, pieces_between}
use Rattle.stitcher.proofs.Counting.{numbers_count_on}
use Rattle.stitcher.proofs.Parts.{whole_is_part, due_is_part, rest_is_part}

reverse_aux-append : {A : Type 0} (xs ys acc : List A) → reverse_aux (xs ++ ys) acc ≡ reverse_aux ys (reverse xs ++ acc)
reverse_aux-append [] ys acc = refl
reverse_aux-append (x ∷ xs) ys acc = grind (arith, reverse_onto, append_assoc, reverse_aux-append xs ys (x ∷ acc))

-- ---- one break

alone : (id : List ℕ) (o : Option Pod) → IsSome o → are_one (mark_with id o) None ≡ false
alone id None h = absurd (cc)
alone id (Some pod) h = refl

both : (id other : List ℕ) (o p : Option Pod) → IsSome o → IsSome p → are_one (mark_with id o) (mark_with other p) ≡ bytes_eq id other
both id other None p h k = absurd (cc)
both id other (Some pod) None h k = absurd (cc)
both id other (Some pod) (Some q) h k = refl

same_run : (store : Store) (mark previous : Option (List ℕ)) → IsDecided store mark → IsDecided store previous
    → are_one (mark_in store mark) (mark_in store previous) ≡ is_same_stitched_run mark previous
same_run store mark previous h k = grind arith

-- ---- what stands for a run

pod_stands : (store : Store) (m : MarkedSegment) (id : List ℕ) (o : Option Pod) → IsSome o → run_pieces (meant store m) (mark_with id o) ≡ reverse (pieces_in_part (whole_from 0) (pod_with id o))
pod_stands store m id o h = grind (arith, whole_is_part)

stands : (store : Store) (m : MarkedSegment) (mark : Option (List ℕ)) → IsDecided store mark → run_pieces (meant store m) (mark_in store mark) ≡ reverse (begun_with store (whole_from 0) m mark)
stands store m None h = refl
stands store m (Some id) h = pod_stands store m id (pod_for store id) h

abbrev newest : Option ℕ → Meant → Option Mark → List Piece
newest so_far s mark = newest_pieces (is_none so_far) (or_zero so_far) s mark

pod_due : (store : Store) (so_far : Option ℕ) (m : MarkedSegment) (id : List ℕ) (o : Option Pod) → IsSome o → newest so_far (meant store m) (mark_with id o) ≡ reverse (pieces_in_part (part_due so_far) (pod_with id o))
pod_due store so_far m id o h = grind (arith, whole_is_part, due_is_part)

stands_due : (store : Store) (so_far : Option ℕ) (m : MarkedSegment) (mark : Option (List ℕ)) → IsDecided store mark → newest so_far (meant store m) (mark_in store mark) ≡ reverse (begun_with store (part_due so_far) m mark)
stands_due store so_far m None h = refl
stands_due store so_far m (Some id) h = pod_due store so_far m id (pod_for store id) h

-- ---- one segment more

abbrev list_due : Option ℕ → List Meant → List Piece
list_due so_far list = due_with (is_none so_far) (or_zero so_far) list

nothing_before : (o : Option Mark) → are_one o None ≡ true → ⊥
nothing_before None e = cc
nothing_before (Some m) e = cc

due_goes_on : (so_far : Option ℕ) (here : Meant) (before : List Meant) → continues here before ≡ true → list_due so_far (here ∷ before) ≡ list_due so_far before
due_goes_on so_far here [] e = absurd (nothing_before here.mark e)
due_goes_on so_far here (t ∷ before) e = rw e refl

due_begins : (so_far : Option ℕ) (here : Meant) (before : List Meant) → continues here before ≡ false → list_due so_far (here ∷ before) ≡ newest so_far here here.mark ++ stitched before
due_begins so_far here [] e = rw e refl
due_begins so_far here (t ∷ before) e = rw e refl

one_more : (store : Store) (so_far : Option ℕ) (m : MarkedSegment) (before : List Meant) → IsDecided store m.mark → (same last : Bool) → continues (meant store m) before ≡ same
    → cond last (list_due so_far (meant store m ∷ before)) (stitched (meant store m ∷ before))
    ≡ reverse (cond same [] (begun_with store (cond last (part_due so_far) (whole_from 0)) m m.mark)) ++ cond (same && last) (list_due so_far before) (stitched before)
one_more store so_far m before d same last e = grind (arith, due_goes_on, due_begins, stands_due, stands)

-- ---- all segments

due_on : (store : Store) (so_far : Option ℕ) (previous : Option (List ℕ)) (marked : List MarkedSegment) (before : List Meant) → newest_mark before ≡ mark_in store previous
    → IsDecided store previous → AreDecided store marked → list_due so_far (reverse_aux (map (meant store) marked) before)
    ≡ reverse_aux (pieces_on store so_far previous marked) (cond (stitched_run_goes_on_to_last previous marked) (list_due so_far before) (stitched before))
due_on store so_far previous [] before h k d = refl
due_on store so_far previous (m ∷ later) before h k d =
    let here = meant store m in
    let last = stitched_run_goes_on_to_last m.mark later in
    let same = is_same_stitched_run m.mark previous in
    let goes_on : continues here before ≡ same = ap (are_one (mark_in store m.mark)) h ∙ same_run store m.mark previous d.0 k in
    due_on store so_far m.mark later (here ∷ before) refl d.0 d.1
    ∙ (ap (reverse_aux (pieces_on store so_far m.mark later)) (one_more store so_far m before d.0 same last goes_on)
    ∙ sym (reverse_aux-append (pieces_at store so_far previous m later) (pieces_on store so_far m.mark later) (cond (same && last) (list_due so_far before) (stitched before))))

nothing_yet : (b : Bool) → ◌≡◌ {A = List Piece} (cond b [] []) []
nothing_yet true = refl
nothing_yet false = refl

-- ---- the rest

rest_stands : (place : ℕ) (id : List ℕ) (o : Option Pod) → rest_pieces (option_map (rest_from place) (mark_with id o)) ≡ reverse (pieces_in_part (whole_from place) (pod_with id o))
rest_stands place id o = grind (arith, rest_is_part)

pub rest_in_order : (store : Store) (rest : Option Rest) → rest_pieces (rest_in store rest) ≡ reverse (pieces_of_rest store rest)
rest_in_order store None = refl
rest_in_order store (Some rest) = rest_stands rest.place rest.id (pod_for store rest.id)

whole_in_order : (store : Store) (ends : Ends) (marked : List MarkedSegment) → AreDecided store marked
    → stitched_with (ends_in store ends) (reverse (map (meant store) marked)) ≡ reverse (pieces_between store ends marked)
whole_in_order store ends marked d =
    let segments = pieces_on store ends.so_far None marked in
    let rest = pieces_of_rest store ends.rest in
    let list : list_due ends.so_far (reverse (map (meant store) marked)) ≡ reverse segments =
    due_on store ends.so_far None marked [] refl tt d ∙ ap (reverse_aux segments) (nothing_yet (stitched_run_goes_on_to_last None marked)) in
    ap (λ t. t ++ rest_pieces (rest_in store ends.rest)) list
    ∙ (ap (λ t. reverse segments ++ t) (rest_in_order store ends.rest) ∙ sym (reverse-append rest segments))

-- the stitched list is the pieces in order, counted on
pub in_order : (store : Store) (first : Numbers) (ends : Ends) (marked : List MarkedSegment) → AreDecided store marked
    → stitched_segments store first ends marked ≡ map written_item (counted first None (pieces_between store ends marked))
in_order store first ends marked d = grind (arith, whole_in_order, numbers_count_on, reverse-reverse)
