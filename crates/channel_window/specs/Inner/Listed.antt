-- What proofs and inner functions say with the definitions of `Listed`.
use Rattle.std.specs.Prelude.{◌≡◌, ℕ, ◌+◌, ◌-◌, ◌++◌, drop, length, if◌then◌else◌, Some, None, true, Bool, not, nat_lt, map, filter, List, ◌∷◌, [], Option, is_some}
use Rattle.playlist_model.specs.Segments.{Segment}
use Rattle.playlist_kept.specs.declared.read_playlist.Read.{Read}
use Rattle.stitcher.specs.Stitched.{Numbers}
use Rattle.pod_store.specs.Rules.{ads_keep}
use Rattle.pod_store.specs.Pods.{Pod}
use Rattle.playlist_model.specs.declared.DateRange.{DateRange}
use Rattle.pod_store.specs.Store.{is_one_of}
use Rattle.stitcher.specs.declared.marked.MarkedSegment.{MarkedSegment as Held}
use Rattle.channel_spec.specs.Live.{date_range_text}

-- these stand in front of the others
abbrev pub IsFront : List Held → List Held → Type 0
IsFront front list = (tail : List Held) × (list ≡ front ++ tail)

-- a list ends with these
abbrev pub IsTail : List Segment → List Segment → Type 0
IsTail tail segments = drop (length segments - length tail) segments ≡ tail

-- the segments that were read since others were taken over; all if none were
abbrev pub since_with : ℕ → List Segment → List Segment → List Segment
since_with front read [] = read
since_with front read (t ∷ taken) = drop front read

abbrev pub since : Read → List Segment
since read = since_with read.front read.playlist.segments read.taken.now

-- the segment is numbered after this one
abbrev pub is_after : ℕ → Segment → Bool
is_after number s = nat_lt number s.media_sequence

-- the texts of the date ranges of other breaks than these
abbrev pub date_range_texts_left_in_window : List (List ℕ) → List DateRange → List (List ℕ)
date_range_texts_left_in_window ids date_ranges = map date_range_text (filter (λ (r : DateRange). not (is_one_of ids r.id)) date_ranges)

-- ---- the numbers of the first item

-- one discontinuity more if a pod stands in front
abbrev pub first_alone : Segment → Bool → Numbers
first_alone s marked =
    if marked then (record { media_sequence = s.media_sequence; discontinuity_sequence = s.discontinuity_sequence + 1; discontinuities = 1 })
    else (record { media_sequence = s.media_sequence; discontinuity_sequence = s.discontinuity_sequence; discontinuities = s.discontinuities })

abbrev pub first_numbers_of : List Held → Numbers
first_numbers_of [] = record { media_sequence = 0; discontinuity_sequence = 0; discontinuities = 0 }
first_numbers_of (m ∷ later) = first_alone m.segment (is_some m.mark)

-- the pod, if any, keeps the rules of pods
abbrev pub pod_keeps : Option Pod → Bool
pod_keeps None = true
pod_keeps (Some pod) = ads_keep pod.ads
