-- What proofs and inner functions say with the definitions of `Checked`.
use Rattle.std.specs.Prelude.{◌≡◌, ◌==◌, Bool, List, Some, is_none}
use Rattle.std.specs.List.{find, slice_get}
use Rattle.playlist_model.specs.InCommon.{AreAlike}
use Rattle.stitcher.specs.declared.marked.MarkedSegment.{MarkedSegment}
use Rattle.channel_window.specs.declared.successor.Alike.{Alike}
use Rattle.playlist_model.specs.Segments.{Segment}
use Rattle.channel_spec.specs.Successor.{difference}

-- the segment is as it was among these, or wasn't there
abbrev pub is_as_before : List Segment → Segment → Bool
is_as_before old s = is_none (difference s (find (λ (t : Segment). t.media_sequence == s.media_sequence) old))

-- the segment has this in common with the one of these at this place, if there is one
abbrev pub IsAlike : List MarkedSegment → Alike → Segment → Type 0
IsAlike shown alike segment = (other : MarkedSegment) → slice_get shown alike.place ≡ Some other → AreAlike alike.in_common segment other.segment
