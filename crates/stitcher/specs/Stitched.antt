-- The stitched list: the origin's segments with each marked run replaced by its pod, and the numbers of its
-- items (RFC 8216, sections 4.3.2.3, 4.3.3.2, 4.3.3.3). Each list has the newest first, the window apart.
use Rattle.std.specs.Prelude.{ℕ, ◌+◌, ◌-◌, ◌^◌, Bool, true, false, ◌&&◌, nat_lt, List, [], ◌∷◌, ◌++◌, map, reverse, take, length, ℤ, Option, Some, None, option_map, is_none, if◌then◌else◌}
use Rattle.playlist_model.specs.Segments.{Segment}
use Rattle.playlist_model.specs.declared.Key.{Key}
use Rattle.playlist_model.specs.declared.InitSection.{InitSection}
use Rattle.pod_store.specs.Pods.{PodSegment, Ad}
use Rattle.pod_store.specs.Marks.{Mark, Marked, continues}
pub use Rattle.playlist_model.specs.Numbering.{Numbers}
use Rattle.playlist_model.specs.Numbering.{segment_numbers}

-- ---- the pieces

-- a segment of the stitched list, before it is numbered: one of the origin, which has no mark, or one of
-- the pod of its mark
pub record Piece : Type 0 where
  pub segment : Segment
  pub instant : Option ℤ
  pub mark : Option Mark
  pub first_of_ad : Bool

abbrev pub is_kept : Piece → Bool
is_kept p = is_none p.mark

abbrev pub kept_piece : Marked → Piece
kept_piece s = record { segment = s.segment; instant = s.instant; mark = None; first_of_ad = false }

abbrev pub with_keys : List Key → InitSection → InitSection
with_keys keys init_section = record init_section { keys = keys }

-- a pod's segment has its ad's initialisation section and keys, no title and no time; it has no number of the origin
abbrev pub ad_segment : Ad → PodSegment → Segment
ad_segment ad s = record {
  media_sequence = 0;
  discontinuity_sequence = 0;
  discontinuities = 0;
  uri = s.uri;
  byte_range = s.byte_range;
  keys = ad.keys;
  init_section = option_map (with_keys ad.keys) ad.init_section;
  duration = s.duration;
  title = [];
  program_date_time = None;
}

abbrev pub ad_piece : Mark → Bool → Ad → PodSegment → Piece
ad_piece mark first ad s = record { segment = ad_segment ad s; instant = None; mark = Some mark; first_of_ad = first }

-- in the order of the ad
abbrev pub ad_pieces : Mark → Ad → List PodSegment → List Piece
ad_pieces mark ad [] = []
ad_pieces mark ad (s ∷ later) = ad_piece mark true ad s ∷ map (ad_piece mark false ad) later

abbrev pub pieces_of_ads : Mark → List Ad → List Piece
pieces_of_ads mark [] = []
pieces_of_ads mark (ad ∷ ads) = ad_pieces mark ad ad.segments ++ pieces_of_ads mark ads

-- the pieces of a mark's pod, in order
abbrev pub pod_pieces : Mark → List Piece
pod_pieces mark = pieces_of_ads mark mark.pod.ads

-- what stands where a run begins: the pod, or the segment itself, which is unmarked
abbrev pub run_pieces : Marked → Option Mark → List Piece
run_pieces s None = kept_piece s ∷ []
run_pieces s (Some mark) = reverse (pod_pieces mark)

-- each unmarked segment itself, and each maximal run of one mark replaced by its pod
abbrev pub stitched : List Marked → List Piece
stitched [] = []
stitched (s ∷ before) = (if continues s before then [] else run_pieces s s.mark) ++ stitched before

-- ---- the numbers

-- the discontinuities between a piece and the one before it: those of the origin between two of its
-- segments, one where the origin comes back after a pod, and one before each ad
abbrev pub steps_between : Piece → Piece → ℕ
steps_between before p =
    if is_kept p then (if is_kept before then p.segment.discontinuity_sequence - before.segment.discontinuity_sequence else 1)
    else (if p.first_of_ad then 1 else 0)

-- the next media number, and the discontinuity number after these steps
abbrev pub next_stitched_numbers : Numbers → ℕ → Numbers
next_stitched_numbers n steps = record { media_sequence = n.media_sequence + 1; discontinuity_sequence = n.discontinuity_sequence + steps; discontinuities = steps }

-- the numbers of a piece after these, the very first of which has the numbers `first`
abbrev pub numbers_at : Numbers → Piece → List Piece → Numbers
numbers_at first p [] = first
numbers_at first p (q ∷ before) = next_stitched_numbers (numbers_at first q before) (steps_between q p)

-- the numbers that the first item has, whose segment is the first of the origin: that segment's own, or one
-- discontinuity more if it is marked and a pod stands first
abbrev pub numbers_from : Segment → Option Mark → Numbers
numbers_from s None = segment_numbers s
numbers_from s (Some mark) = record { media_sequence = s.media_sequence; discontinuity_sequence = s.discontinuity_sequence + 1; discontinuities = 1 }

abbrev pub first_numbers : List Marked → Numbers
first_numbers [] = record { media_sequence = 0; discontinuity_sequence = 0; discontinuities = 0 }
first_numbers (s ∷ []) = numbers_from s.segment s.mark
first_numbers (s ∷ (t ∷ before)) = first_numbers (t ∷ before)

-- a numbered piece
pub record Item : Type 0 where
  pub piece : Piece
  pub numbers : Numbers

abbrev pub numbered : Numbers → List Piece → List Item
numbered first [] = []
numbered first (p ∷ before) = record { piece = p; numbers = numbers_at first p before } ∷ numbered first before

-- a playlist can state the numbers
abbrev pub can_be_numbered : Item → Bool
can_be_numbered item = nat_lt item.numbers.media_sequence (2 ^ 64) && nat_lt item.numbers.discontinuity_sequence (2 ^ 64)

-- ---- the window

-- the place, from the oldest, of the item of the newest segment: of the first of its pod if it is marked
abbrev pub newest_place : List Marked → ℕ
newest_place [] = 0
newest_place (s ∷ before) = if continues s before then newest_place before else length (stitched before)

-- the history up to the segment of this media number
abbrev pub up_to : ℕ → List Marked → List Marked
up_to number [] = []
up_to number (s ∷ before) = if nat_lt number s.segment.media_sequence then up_to number before else s ∷ before

-- a list without so many of its oldest
abbrev pub from_place : {A : Type 0} → ℕ → List A → List A
from_place place list = take (length list - place) list
