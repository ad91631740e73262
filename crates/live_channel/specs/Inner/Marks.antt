-- The breaks that mark segments, as a channel holds them.
use Rattle.std.specs.Prelude.{◌≡◌, ◌<◌, ◌≤◌, ◌+◌, ℕ, true, nat_le, List, [], ◌∷◌, ◌++◌, length, Option, Some, None, if◌then◌else◌}
use Rattle.std.specs.List.{slice_get}
use Rattle.stitcher.specs.declared.marked.MarkedSegment.{MarkedSegment}
use Rattle.stitcher.specs.declared.ends.Rest.{Rest}
use Rattle.pod_store.specs.Store.{is_one_of}
use Rattle.channel_spec.specs.Live.{ids_of_option}

-- the break of this mark, if there is one, is one of these
abbrev pub IsAmongMarks : List (List ℕ) → Option (List ℕ) → Type 0
IsAmongMarks marks None = Unit {0}
IsAmongMarks marks (Some id) = is_one_of marks id ≡ true

-- so is that of a segment, if one of so many directly before it is known to have its mark
abbrev pub IsSettledAgain : List (List ℕ) → ℕ → MarkedSegment → Type 0
IsSettledAgain marks settled m = 0 < m.again → m.again ≤ settled → IsAmongMarks marks m.mark

-- so many segments directly before the rest of a list are settled: the break of each, if it has one, is one of these
pub record AreSettled (marks : List (List ℕ)) (settled : ℕ) (list rest : List MarkedSegment) : Type 0 where
  pub front : List MarkedSegment
  pub is : list ≡ front ++ rest
  pub within : settled ≤ length front
  pub among : (place : ℕ) (m : MarkedSegment) → place < length front → length front ≤ place + settled → slice_get list place ≡ Some m → IsAmongMarks marks m.mark

-- the break that marks a segment, if it is numbered from this number on
abbrev pub mark_held : ℕ → MarkedSegment → List (List ℕ)
mark_held first m = if nat_le first m.segment.media_sequence then ids_of_option m.mark else []

-- the breaks that mark the segments from a number on, the oldest first
abbrev pub marks_held : ℕ → List MarkedSegment → List (List ℕ)
marks_held first [] = []
marks_held first (m ∷ later) = mark_held first m ++ marks_held first later

-- and then this one, which was entered last
abbrev pub live_marks_and_last : ℕ → List MarkedSegment → Option (List ℕ) → List (List ℕ)
live_marks_and_last first held last = marks_held first held ++ ids_of_option last

abbrev pub rest_held : Option Rest → List (List ℕ)
rest_held None = []
rest_held (Some rest) = rest.id ∷ []

-- and the one with the rest of whose pod a window starts
abbrev pub breaks_held : ℕ → List MarkedSegment → Option (List ℕ) → Option Rest → List (List ℕ)
breaks_held first held last rest = live_marks_and_last first held last ++ rest_held rest
