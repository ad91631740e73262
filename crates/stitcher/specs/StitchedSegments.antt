-- What `stitch` answers: the stitched list of marked segments, told by IDs and a store of pods.
use Rattle.std.specs.Prelude.{◌≡◌, ℕ, ◌+◌, ◌^◌, Bool, ◌&&◌, nat_lt, List, [], ◌∷◌, map, reverse, Option, Some, None, IsSome, option_map}
use Rattle.std.specs.List.{AllByRecursion, slice_get}
use Rattle.pod_store.specs.Marks.{Mark, Marked as Meant, mark_in}
use Rattle.playlist_model.specs.Segments.{Segment}
use Rattle.playlist_model.specs.InCommon.{HaveInCommon}
use Rattle.stitcher.specs.Stitched.{Numbers, numbered}
use Rattle.stitcher.specs.Paced.{PodRest, StitchedEnds, stitched_with}
use Rattle.pod_store.specs.Store.{Store, pod_for}
use Rattle.stitcher.specs.declared.OutSegment.{OutSegment}
use Rattle.stitcher.specs.declared.marked.MarkedSegment.{MarkedSegment}
use Rattle.stitcher.specs.declared.ends.Rest.{Rest}
use Rattle.stitcher.specs.declared.ends.Ends.{Ends}
use Rattle.stitcher.specs.declared.fault.StitchFault.{StitchFault}
use Rattle.stitcher.specs.declared.fault.StitchFault.TheVariants.{NumberRange, OutOfMemory}
use Rattle.stitcher.specs.Written.{written_item}
use Rattle.stitcher.specs.Making.{is_same_stitched_run}

abbrev pub meant : Store → MarkedSegment → Meant
meant store m = record { segment = m.segment; instant = m.instant; mark = mark_in store m.mark }

-- the mark, if any, has a pod
abbrev pub IsDecided : Store → Option (List ℕ) → Type 0
IsDecided store None = Unit {0}
IsDecided store (Some id) = IsSome (pod_for store id)

abbrev pub AreDecided : Store → List MarkedSegment → Type 0
AreDecided store marked = AllByRecursion (λ (m : MarkedSegment). IsDecided store m.mark) marked

-- the segment knows whether it goes on the run of one before it that has this mark
abbrev pub KnowsRun : Option (List ℕ) → MarkedSegment → Type 0
KnowsRun None m = Unit {0}
KnowsRun (Some id) m = m.goes_on ≡ is_same_stitched_run m.mark (Some id)

-- so does each of these of the one before it, the first after one of this mark
abbrev pub KnowRuns : Option (List ℕ) → List MarkedSegment → Type 0
KnowRuns previous [] = Unit {0}
KnowRuns previous (m ∷ later) = KnowsRun previous m × KnowRuns m.mark later

-- the segment knows what it has in common with the one before it, if there is one
abbrev pub KnowsCommon : Option Segment → MarkedSegment → Type 0
KnowsCommon None m = Unit {0}
KnowsCommon (Some before) m = HaveInCommon m.in_common before m.segment

-- so does each of these
abbrev pub KnowCommon : Option Segment → List MarkedSegment → Type 0
KnowCommon previous [] = Unit {0}
KnowCommon previous (m ∷ later) = KnowsCommon previous m × KnowCommon (Some m.segment) later

-- each of these has the mark of the one that stands as many places before it as it says
abbrev pub KnowAgain : List MarkedSegment → Type 0
KnowAgain list = (place : ℕ) (before m : MarkedSegment) → slice_get list place ≡ Some before → slice_get list (place + m.again) ≡ Some m → m.mark ≡ before.mark

-- each of these knows of the one before it whether it goes on that one's run, and what both have in common; and of one before it
-- that it has its mark
pub record KnowPrevious (list : List MarkedSegment) : Type 0 where
  pub runs : KnowRuns None list
  pub common : KnowCommon None list
  pub again : KnowAgain list

-- the rest of a pod that the store has
abbrev pub rest_from : ℕ → Mark → PodRest
rest_from place mark = record { mark = mark; place = place }

abbrev pub rest_in : Store → Option Rest → Option PodRest
rest_in store None = None
rest_in store (Some rest) = option_map (rest_from rest.place) (mark_in store (Some rest.id))

abbrev pub ends_in : Store → Ends → StitchedEnds
ends_in store ends = record { rest = rest_in store ends.rest; so_far = ends.so_far }

-- the stitched list of these segments between these ends, whose first item has these numbers, in the order of a playlist
abbrev pub stitched_segments : Store → Numbers → Ends → List MarkedSegment → List OutSegment
stitched_segments store first ends marked = map written_item (reverse (numbered first (stitched_with (ends_in store ends) (reverse (map (meant store) marked)))))

abbrev pub item_fits : OutSegment → Bool
item_fits out = nat_lt out.media_sequence (2 ^ 64) && nat_lt out.discontinuity_sequence (2 ^ 64)

-- a number does not fit, or an allocation failed
abbrev pub RefusesNumber : StitchFault → Type 0 → Type 0
RefusesNumber NumberRange OutOfRange = OutOfRange
RefusesNumber OutOfMemory OutOfRange = Unit {0}
