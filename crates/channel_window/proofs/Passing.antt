-- A first number that passes its range, and the window in the stitched list.
use Rattle.std.proofs.Common.{suc, ◌≤◌, ◌≡◌, ℕ, ◌+◌, ◌<◌, ◌^◌, Bool, true, false, cond, List, [], ◌∷◌, ◌++◌, map, length, refl, ap, ◌∙◌, subst, arith, length-append}
use Rattle.std.specs.Prelude.{Option, Some, None, Result, Ok, Err, IfErr, IsSome, is_some, nat_lt, slice_get}
use Rattle.std.specs.List.{list_all, AllByRecursion}
use Rattle.std.proofs.lemmas.Bool.{and_parts}
use mathlib.Core.List.{reverse_aux}
use Rattle.pod_store.specs.Pods.{Pod, Ad, PodSegment}
use Rattle.pod_store.specs.Marks.{Mark, Marked as Meant, mark_with, mark_in}
use Rattle.playlist_model.specs.Segments.{Segment}
use Rattle.channel_spec.specs.declared.heading.Heading.{Heading}
use Rattle.stitcher.specs.Stitched.{Piece, Numbers, ad_pieces, pieces_of_ads, numbers_from, first_numbers}
use Rattle.pod_store.specs.Store.{Store, pod_for}
use Rattle.stitcher.specs.declared.marked.MarkedSegment.{MarkedSegment}
use Rattle.stitcher.specs.declared.ends.Rest.{Rest}
use Rattle.stitcher.specs.declared.ends.Ends.{Ends}
use Rattle.stitcher.specs.declared.making.Last.{Last}
use Rattle.stitcher.specs.Written.{written_item}
use Rattle.stitcher.specs.StitchedSegments.{KnowPrevious, IsDecided, AreDecided, item_fits, stitched_segments}
use Rattle.stitcher.specs.Making.{pod_with, begun, is_same_stitched_run}
use Rattle.stitcher.specs.Inner.Making.{counted, last_of, numbers_after, begun_with, pieces_in_part, stitched_part_at, part_due, whole_from, stitched_run_goes_on_to_last, pieces_on, pieces_of_rest, pieces_between}
use Rattle.stitcher.proofs.Parts.{whole_is_part}
use Rattle.stitcher.proofs.Runs.{in_order, rest_in_order}
use Rattle.stitcher.proofs.Known.{known_previous_front}
use Rattle.channel_spec.specs.Kept.{numbers_on}
use Rattle.channel_spec.specs.declared.fault.RefreshFault.{RefreshFault}
use Rattle.channel_spec.specs.declared.fault.RefreshFault.TheVariants.{NumberRange}
use Rattle.channel_spec.proofs.Windows.{length-reverse}
use Rattle.channel_spec.proofs.SoundPods.{kept_is_sound}
use Rattle.channel_window.specs.Marking.{history_in, place_on}
use Rattle.channel_window.specs.Inner.Placing.{window_rest_count}
use Rattle.channel_window.specs.Listed.{RefusesList}
use Rattle.channel_window.specs.Inner.Listed.{IsFront, first_alone, first_numbers_of, pod_keeps}
use Rattle.channel_window.proofs.Listed.{all_after}

first_fails : (first : Numbers) (pieces : List Piece) → 0 < length pieces → nat_lt first.discontinuity_sequence (2 ^ 64) ≡ false
    → list_all item_fits (map written_item (counted first None pieces)) ≡ false
first_fails first [] some h = absurd (omega (arith, some))
first_fails first (p ∷ later) some h = grind arith

some_pieces : (mark : Mark) (ad : Ad) (segments : List PodSegment) (more : List Piece) → 0 < length segments → 0 < length (ad_pieces mark ad segments ++ more)
some_pieces mark ad [] more h = absurd (omega (arith, h))
some_pieces mark ad (s ∷ later) more h = omega arith

pod_long : (mark : Mark) (ads : List Ad) → 0 < length ads → AllByRecursion (λ (ad : Ad). 0 < length ad.segments) ads → 0 < length (pieces_of_ads mark ads)
pod_long mark [] some h = absurd (omega (arith, some))
pod_long mark (ad ∷ ads) some h = some_pieces mark ad ad.segments (pieces_of_ads mark ads) h.0

pod_stands : (id : List ℕ) (o : Option Pod) → IsSome o → pod_keeps o ≡ true → 0 < length (pod_with id o)
pod_stands id o d h = grind (arith, kept_is_sound, pod_long)

-- what is shown of a pod from its front on is something
part_some : (whole : Bool) (left : ℕ) (pieces : List Piece) → 0 < length pieces → 0 < length (pieces_in_part (record { skip = 0; whole = whole; left = left; done = false }) pieces)
part_some whole left [] h = absurd (omega (arith, h))
part_some whole left (p ∷ pieces) h = omega arith

due_some : (so_far : Option ℕ) (pieces : List Piece) → 0 < length pieces → 0 < length (pieces_in_part (part_due so_far) pieces)
due_some None pieces h = part_some true 0 pieces h
due_some (Some length) pieces h = part_some false length pieces h

at_some : (so_far : Option ℕ) (mark : Option (List ℕ)) (later : List MarkedSegment) (pieces : List Piece) → 0 < length pieces → 0 < length (pieces_in_part (stitched_part_at so_far mark later) pieces)
at_some so_far mark later pieces h = grind (arith, due_some, part_some)

front_some : (store : Store) (ends : Ends) (m : MarkedSegment) (later : List MarkedSegment) (id : List ℕ) → m.mark ≡ Some id → 0 < length (pod_with id (pod_for store id)) → 0 < length (pieces_between store ends (m ∷ later))
front_some store ends m later id is h = grind (arith, at_some, length-append)

-- a pod in front whose number passes its range
front_at : (store : Store) (ends : Ends) (m : MarkedSegment) (later : List MarkedSegment) (id : List ℕ) → AreDecided store (m ∷ later) → m.mark ≡ Some id → pod_keeps (pod_for store id) ≡ true
    → nat_lt (m.segment.discontinuity_sequence + 1) (2 ^ 64) ≡ false → list_all item_fits (stitched_segments store (first_numbers_of (m ∷ later)) ends (m ∷ later)) ≡ false
front_at store ends m later id d is keep h =
    let first = first_numbers_of (m ∷ later) in
    let decided : IsDecided store (Some id) = subst (IsDecided store) is d.0 in
    let passes : nat_lt first.discontinuity_sequence (2 ^ 64) ≡ false = ap (λ mark. nat_lt (first_alone m.segment (is_some mark)).discontinuity_sequence (2 ^ 64)) is ∙ h in
    ap (list_all item_fits) (in_order store first ends (m ∷ later) d)
    ∙ first_fails first (pieces_between store ends (m ∷ later)) (front_some store ends m later id is (pod_stands id (pod_for store id) decided keep)) passes

pub front_fails : (store : Store) (ends : Ends) (marked : List MarkedSegment) (m : MarkedSegment) (id : List ℕ) → slice_get marked 0 ≡ Some m → AreDecided store marked → m.mark ≡ Some id
    → pod_keeps (pod_for store id) ≡ true → nat_lt (m.segment.discontinuity_sequence + 1) (2 ^ 64) ≡ false → list_all item_fits (stitched_segments store (first_numbers_of marked) ends marked) ≡ false
front_fails store ends marked m id at d is keep h = grind (arith, front_at)

-- the fault of the first numbers is handed on
pub pod_passes : {A : Type 0} (r : Result A RefreshFault) {P Q : Type 0} → IfErr r (λ e. (e ≡ NumberRange) × P) → (P → Q) → IfErr r (λ e. RefusesList e Q)
pod_passes (Ok x) h f = h
pod_passes (Err e) (is, p) f = rw is (f p)

-- ---- the first numbers, by the history

first_of : (later : List Meant) (s : Meant) (before : List Meant) → first_numbers (reverse_aux later (s ∷ before)) ≡ first_numbers (s ∷ before)
first_of [] s before = refl
first_of (t ∷ later) s before = first_of later t (s ∷ before)

with_pod : (s : Segment) (id : List ℕ) (o : Option Pod) → IsSome o → numbers_from s (mark_with id o) ≡ first_alone s true
with_pod s id None h = absurd (cc)
with_pod s id (Some pod) h = refl

with_mark : (store : Store) (s : Segment) (mark : Option (List ℕ)) → IsDecided store mark → numbers_from s (mark_in store mark) ≡ first_alone s (is_some mark)
with_mark store s None h = refl
with_mark store s (Some id) h = with_pod s id (pod_for store id) h

pub begins : (store : Store) (held : List MarkedSegment) → AreDecided store held → first_numbers (history_in store held) ≡ first_numbers_of held
begins store held d = grind (arith, first_of, with_mark)

-- ---- the window

pieces_counted : (first : Numbers) (last : Option Last) (pieces : List Piece) → length (map written_item (counted first last pieces)) ≡ length pieces
pieces_counted first last [] = refl
pieces_counted first last (p ∷ later) = ap suc (pieces_counted first (Some (last_of p (numbers_after first last p))) later)

pub as_long : (store : Store) (first : Numbers) (ends : Ends) (list : List MarkedSegment) → AreDecided store list → length (stitched_segments store first ends list) ≡ length (pieces_between store ends list)
as_long store first ends list d = grind (arith, in_order, pieces_counted)

-- a run that goes on to the last segment begins where it begins
stays_put : (store : Store) (mark : Option (List ℕ)) (start count : ℕ) (front tail : List MarkedSegment) → stitched_run_goes_on_to_last mark (front ++ tail) ≡ true → place_on store mark start count front ≡ start
stays_put store mark start count [] tail h = refl
stays_put store mark start count (m ∷ front) tail h =
    let p = and_parts (is_same_stitched_run m.mark mark) (stitched_run_goes_on_to_last m.mark (front ++ tail)) h in
    ap (λ b. cond b (place_on store m.mark start count front) (place_on store m.mark count (count + length (begun store m m.mark)) front)) p.0
    ∙ stays_put store m.mark start count front tail p.1

whole_long : (store : Store) (m : MarkedSegment) (mark : Option (List ℕ)) → length (begun_with store (whole_from 0) m mark) ≡ length (begun store m mark)
whole_long store m None = refl
whole_long store m (Some id) = ap length (whole_is_part (pod_with id (pod_for store id)))

place_bounded : (store : Store) (so_far : Option ℕ) (previous : Option (List ℕ)) (start count : ℕ) (front tail : List MarkedSegment) → start ≤ count
    → place_on store previous start count front ≤ count + length (pieces_on store so_far previous (front ++ tail))
place_bounded store so_far previous start count [] tail h = omega (arith, h)
place_bounded store so_far previous start count (m ∷ front) tail h =
    let more = length (begun store m m.mark) in
    let on = place_bounded store so_far m.mark start count front tail h in
    let anew = place_bounded store so_far m.mark count (count + more) front tail (omega arith) in
    step (is_same_stitched_run m.mark previous) (stitched_run_goes_on_to_last m.mark (front ++ tail)) refl on anew
  where
    step : (same goes : Bool) → stitched_run_goes_on_to_last m.mark (front ++ tail) ≡ goes
        → place_on store m.mark start count front ≤ count + length (pieces_on store so_far m.mark (front ++ tail))
        → place_on store m.mark count (count + length (begun store m m.mark)) front ≤ (count + length (begun store m m.mark)) + length (pieces_on store so_far m.mark (front ++ tail))
        → cond same (place_on store m.mark start count front) (place_on store m.mark count (count + length (begun store m m.mark)) front)
        ≤ count + length (cond same [] (begun_with store (cond goes (part_due so_far) (whole_from 0)) m m.mark) ++ pieces_on store so_far m.mark (front ++ tail))
    step true goes e on anew = on
    step false true e on anew = omega (arith, stays_put store m.mark count (count + length (begun store m m.mark)) front tail e)
    step false false e on anew =
        let a = length-append (begun_with store (whole_from 0) m m.mark) (pieces_on store so_far m.mark (front ++ tail)) in
        omega (arith, anew, a, whole_long store m m.mark)

rest_long : (store : Store) (rest : Option Rest) → length (pieces_of_rest store rest) ≡ window_rest_count store rest
rest_long store rest = grind (arith, rest_in_order, length-reverse)

-- the item of each front's last segment is among the items
pub within : (store : Store) (first : Numbers) (ends : Ends) (list front : List MarkedSegment) → AreDecided store list → IsFront front list
    → place_on store None 0 0 front + window_rest_count store ends.rest ≤ length (stitched_segments store first ends list)
within store first ends list front d f = grind (arith, place_bounded, length-append, rest_long, as_long)

pub front_decided : (store : Store) (list front : List MarkedSegment) → AreDecided store list → IsFront front list → AreDecided store front
front_decided store list front d f = (all_after (λ (m : MarkedSegment). IsDecided store m.mark) front f.0 (subst (AreDecided store) f.1 d)).0

pub front_known_previous : (list front : List MarkedSegment) → KnowPrevious list → IsFront front list → KnowPrevious front
front_known_previous list front k f = known_previous_front front f.0 (subst KnowPrevious f.1 k)

pub first_here : (store : Store) (held : List MarkedSegment) (numbers : Numbers) (last : Option Heading) → AreDecided store held → last ≡ None → first_numbers_of held ≡ numbers_on last numbers (history_in store held)
first_here store held numbers last d e = grind (arith, begins)

pub refuses_first : (store : Store) (ends : Ends) (held : List MarkedSegment) (numbers : Numbers) (last : Option Heading) (e : RefreshFault) → AreDecided store held → last ≡ None
    → RefusesList e (list_all item_fits (stitched_segments store (first_numbers_of held) ends held) ≡ false)
    → RefusesList e (list_all item_fits (stitched_segments store (numbers_on last numbers (history_in store held)) ends held) ≡ false)
refuses_first store ends held numbers last e d is h = grind (arith, first_here)
