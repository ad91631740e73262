-- What holds of the new segments of a refresh, and of the place of the window.
use Rattle.std.specs.Prelude.{◌≡◌, ℕ, List, map, reverse, Option, None}
use Rattle.playlist_model.specs.Segments.{Segment}
use Rattle.pod_store.specs.Marks.{Marked, newest_mark, mark_in}
use Rattle.playlist_model.specs.Instants.{instants_after}
use Rattle.stitcher.specs.Stitched.{newest_place}
use Rattle.pod_store.specs.Store.{Store}
use Rattle.stitcher.specs.declared.marked.MarkedSegment.{MarkedSegment as Held}
use Rattle.stitcher.specs.StitchedSegments.{meant, IsDecided, AreDecided}
use Rattle.channel_spec.specs.Marking.{Moment, newest_end}
use Rattle.channel_spec.specs.Kept.{show_on, length_on}
use Rattle.channel_window.specs.Marking.{Hint, mark_on, reversed_onto, place_on, length_after}

-- the segments that are marked after others are those that are shown after them, and each mark is decided
abbrev pub MarksAreShown : Type 0
MarksAreShown = (m : Moment) (newest last : Option (List ℕ)) (hints : List Hint) (before : List Marked) (segments : List Segment) → IsDecided m.store newest → newest_mark before ≡ mark_in m.store newest →
    (reversed_onto (map (meant m.store) (mark_on m newest last hints segments (instants_after (newest_end before) segments))) before ≡ show_on m before last segments)
    × AreDecided m.store (mark_on m newest last hints segments (instants_after (newest_end before) segments))

-- and the newest run has lasted as long with them
abbrev pub LengthsAreKept : Type 0
LengthsAreKept = (m : Moment) (newest last : Option (List ℕ)) (hints : List Hint) (before : List Marked) (so_far : ℕ) (segments : List Segment) → IsDecided m.store newest → newest_mark before ≡ mark_in m.store newest →
    length_after m.store newest so_far (mark_on m newest last hints segments (instants_after (newest_end before) segments)) ≡ length_on m before last so_far segments

-- the place of the newest of these segments, counted from the oldest on
abbrev pub PlaceIsCounted : Type 0
PlaceIsCounted = (store : Store) (held : List Held) → AreDecided store held → newest_place (reverse (map (meant store) held)) ≡ place_on store None 0 0 held
