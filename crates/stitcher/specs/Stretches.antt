-- A stitched list as it is held: stretches, each of ads' segments and of the segments that are kept after them.
use Rattle.std.specs.Prelude.{◌≡◌, ℕ, ◌-◌, ◌≤◌, true, List, [], ◌∷◌, ◌++◌, length, map, Option, Some, None}
use Rattle.std.specs.List.{AllByRecursion, list_all}
use Rattle.playlist_model.specs.declared.in_common.InCommon.{InCommon}
use Rattle.playlist_model.specs.InCommon.{HaveInCommon}
use Rattle.playlist_model.specs.Segments.{Segment}
use Rattle.stitcher.specs.Stitched.{Numbers, next_stitched_numbers}
use Rattle.stitcher.specs.StitchedSegments.{KnowCommon, item_fits}
use Rattle.stitcher.specs.declared.OutSegment.{OutSegment}
use Rattle.stitcher.specs.declared.marked.MarkedSegment.{MarkedSegment}
use Rattle.stitcher.specs.declared.stitched_list.Stretch.{Stretch}
use Rattle.stitcher.specs.declared.stitched_list.Cursor.{Cursor}

-- the item of an ad's segment, which repeats the numbers that are written
abbrev pub stitched_ad_item : Segment → OutSegment
stitched_ad_item s = record { segment = s; media_sequence = s.media_sequence; discontinuity_sequence = s.discontinuity_sequence; discontinuities = s.discontinuities; program_date_time = None }

-- the item of a kept segment with these numbers
abbrev pub stitched_kept_item : Numbers → MarkedSegment → OutSegment
stitched_kept_item n m = record { segment = m.segment; media_sequence = n.media_sequence; discontinuity_sequence = n.discontinuity_sequence; discontinuities = n.discontinuities; program_date_time = m.instant }

-- the numbers of the first of these, which follow a kept segment with those
abbrev pub stitched_numbers_on : Numbers → MarkedSegment → List MarkedSegment → Numbers
stitched_numbers_on n m [] = n
stitched_numbers_on n m (next ∷ later) = next_stitched_numbers n (next.segment.discontinuity_sequence - m.segment.discontinuity_sequence)

-- kept segments that follow each other, the first with these numbers
abbrev pub segment_items : Numbers → List MarkedSegment → List OutSegment
segment_items n [] = []
segment_items n (m ∷ later) = stitched_kept_item n m ∷ segment_items (stitched_numbers_on n m later) later

-- the items of a stretch, and those of stretches
abbrev pub stretch_items : Stretch → List OutSegment
stretch_items s = map stitched_ad_item s.ads ++ segment_items s.numbers s.kept.now

abbrev pub stretches_items : List Stretch → List OutSegment
stretches_items [] = []
stretches_items (s ∷ later) = stretch_items s ++ stretches_items later

-- what is left of the ads' segments of a stretch; nothing before the first stretch
abbrev pub ads_left : Option (List Segment) → List Segment
ads_left None = []
ads_left (Some ads) = ads

-- what is left of the stretch at which a walk is, and all that is left
abbrev pub here_items : Cursor → List OutSegment
here_items c = map stitched_ad_item (ads_left c.ads) ++ segment_items c.numbers c.kept.now

abbrev pub left_items : Cursor → List OutSegment
left_items c = here_items c ++ stretches_items c.later.now

-- the second of these items, if there is one, has this in common with the first
abbrev pub SecondHasInCommon : InCommon → List OutSegment → Type 0
SecondHasInCommon common items = (before now : OutSegment) (later : List OutSegment) → items ≡ before ∷ (now ∷ later) → HaveInCommon common before.segment now.segment

-- the kept segments of each stretch know what they have in common
abbrev pub KeptKnowCommon : List Stretch → Type 0
KeptKnowCommon stretches = AllByRecursion (λ (s : Stretch). KnowCommon None s.kept.now) stretches

-- so do those that are left to a walk, of its stretch and of the later ones
pub record LeftKnowCommon (c : Cursor) : Type 0 where
  pub here : KnowCommon None c.kept.now
  pub later : KeptKnowCommon c.later.now

-- stretches of so many items, as many of which stand before the list, whose numbers fit, and whose kept segments know what they
-- have in common
pub record IsHeld (stretches : List Stretch) (count passed : ℕ) : Type 0 where
  pub counted : count ≡ length (stretches_items stretches)
  pub within : passed ≤ count
  pub fit : list_all item_fits (stretches_items stretches) ≡ true
  pub common : KeptKnowCommon stretches
