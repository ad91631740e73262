-- The new segments of a refresh, marked in the order of the playlist.
use mathlib.Core.List.{reverse_aux}
use Rattle.std.specs.Prelude.{ℕ, ◌+◌, min, length, Bool, false, List, [], ◌∷◌, drop, map, reverse, ℤ, Option, Some, None, if◌then◌else◌}
use Rattle.playlist_model.specs.Segments.{Segment}
use Rattle.playlist_model.specs.InCommon.{nothing_in_common}
use Rattle.playlist_model.specs.declared.in_common.InCommon.{InCommon}
use Rattle.pod_store.specs.Pods.{Pod, total}
use Rattle.pod_store.specs.Marks.{Marked}
use Rattle.playlist_model.specs.LookBack.{or_earlier}
use Rattle.pod_store.specs.Store.{Store, pod_for}
use Rattle.break_finder.specs.Entering.{is_inside, entered}
use Rattle.stitcher.specs.declared.marked.MarkedSegment.{MarkedSegment as Held}
use Rattle.stitcher.specs.StitchedSegments.{meant}
use Rattle.stitcher.specs.Making.{is_same_stitched_run, begun}
use Rattle.channel_spec.specs.Marking.{Moment, limits}

-- these segments as they are meant, the newest first
abbrev pub history_in : Store → List Held → List Marked
history_in store held = reverse (map (meant store) held)

abbrev pub is_still_inside : Moment → List ℕ → Option ℤ → Option Pod → Bool
is_still_inside m id instant None = false
is_still_inside m id instant (Some pod) = is_inside m.breaks id instant m.tolerance pod

-- a segment that begins at this instant goes on the run of the one before it
abbrev pub stays : Moment → Option (List ℕ) → Option ℤ → Bool
stays m None instant = false
stays m (Some id) instant = is_still_inside m id instant (pod_for m.store id)

-- the break that marks a segment which begins at this instant, after one of this mark and after this last break entered
abbrev pub next_id : Moment → Option (List ℕ) → Option (List ℕ) → Option ℤ → Option (List ℕ)
next_id m newest last instant = if stays m newest instant then newest else entered (limits m last) m.store m.breaks instant

-- what a new segment is told of those before it: what it has in common with the last of them, and how many places before it one
-- stands that has its mark too
abbrev pub Hint : Type 0
Hint = InCommon × ℕ

-- the first of these; nothing in common and no other segment if none is left
abbrev pub first_hint : List Hint → Hint
first_hint [] = (nothing_in_common, 0)
first_hint (hint ∷ later) = hint

-- these segments, which begin at these instants, with their marks, and with what each is told of those before it
abbrev pub mark_on : Moment → Option (List ℕ) → Option (List ℕ) → List Hint → List Segment → List (Option ℤ) → List Held
mark_on m newest last hints [] instants = []
mark_on m newest last hints (s ∷ later) [] = []
mark_on m newest last hints (s ∷ later) (instant ∷ instants) =
    record { segment = s; instant = instant; mark = next_id m newest last instant; goes_on = is_same_stitched_run (next_id m newest last instant) newest; in_common = (first_hint hints).0; again = (first_hint hints).1 }
    ∷ mark_on m (next_id m newest last instant) (or_earlier (next_id m newest last instant) last) (drop 1 hints) later instants

-- the first list, turned round, before the second
abbrev pub reversed_onto : {A : Type 0} → List A → List A → List A
reversed_onto xs ys = reverse_aux xs ys

-- the place of the first item of the run of the last of these segments: after a run of this mark that begins at
-- the place `start`, if the list has `count` items so far
abbrev pub place_on : Store → Option (List ℕ) → ℕ → ℕ → List Held → ℕ
place_on store previous start count [] = start
place_on store previous start count (m ∷ later) =
    if is_same_stitched_run m.mark previous then place_on store m.mark start count later
    else place_on store m.mark count (count + length (begun store m m.mark)) later

-- no more of a run's length counts than a nanosecond above its pod's total
abbrev pub capped_by : Option Pod → ℕ → ℕ
capped_by None length = 0
capped_by (Some pod) length = min length (total pod + 1)

abbrev pub capped_in : Store → Option (List ℕ) → ℕ → ℕ
capped_in store None length = 0
capped_in store (Some id) length = capped_by (pod_for store id) length

abbrev pub length_before : Option (List ℕ) → Option (List ℕ) → ℕ → ℕ
length_before mark previous so_far = if is_same_stitched_run mark previous then so_far else 0

-- how long the newest run has lasted with these segments, after one of this mark and a run that had lasted so long
abbrev pub length_after : Store → Option (List ℕ) → ℕ → List Held → ℕ
length_after store previous so_far [] = so_far
length_after store previous so_far (m ∷ later) =
    length_after store m.mark (capped_in store m.mark (m.segment.duration + length_before m.mark previous so_far)) later
