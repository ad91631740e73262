-- What is owed after the decisions and refreshes so far, the newest of these events first. One playlist that is
-- rewritten is the case of one refresh.
use Rattle.std.specs.Prelude.{ℕ, ◌+◌, ◌-◌, ◌==◌, max, min, Bool, false, not, nat_le, nat_lt, List, [], ◌∷◌, ◌++◌, map, filter, reverse, length, Option, Some, None, Ok, Err, is_none, is_some, option_map, if◌then◌else◌}
use Rattle.std.specs.List.{list_all, list_any}
use Rattle.playlist_model.specs.Segments.{Segment}
use Rattle.playlist_model.specs.declared.Playlist.{Playlist}
use Rattle.playlist_model.specs.declared.DateRange.{DateRange}
use Rattle.playlist_model.specs.LookBack.{or_earlier}
use Rattle.pod_store.specs.Store.{Store, nothing_decided, is_one_of, kept_in_use}
use Rattle.pod_store.specs.Store.{decided as after_decisions}
use Rattle.pod_store.specs.Outcome.{DecisionOutcome}
use Rattle.pod_store.specs.declared.Decisions.{Decisions}
use Rattle.pod_store.specs.Marks.{Mark, Marked, newest_mark}
use Rattle.channel_spec.specs.Marking.{Moment, mark_id, last_entered, history_after}
use Rattle.stitcher.specs.Stitched.{Item, can_be_numbered, newest_place, up_to, from_place}
use Rattle.stitcher.specs.Paced.{PodRest, due_stitched, due_list}
use Rattle.break_finder.specs.Known.{Accepted, known, is_this_break}
use Rattle.channel_spec.specs.Successor.{successor_fault, first_number, has_init_sections, fault_if}
use Rattle.channel_spec.specs.declared.fault.RefreshFault.{RefreshFault}
use Rattle.channel_spec.specs.declared.fault.RefreshFault.TheVariants.{NumberRange}

-- a decision file, or a refresh of the origin's playlist
pub data Event : Type 0 where
  decided : Decisions → Event
  refreshed : Playlist → Event

-- all that a list of events tells: the accepted refreshes and the history, each with the newest first, the store, in
-- order, and the place in the stitched list, from the oldest item, at which the last window starts
pub record Told : Type 0 where
  pub accepted : List Accepted
  pub history : List Marked
  pub store : Store
  pub start : ℕ

-- ---- decisions

-- what is refused changes nothing
abbrev pub store_by_outcome : Store → DecisionOutcome Store → Store
store_by_outcome store (Ok new) = new
store_by_outcome store (Err fault) = store

abbrev pub decide : Decisions → Store → Store
decide decisions store = store_by_outcome store (after_decisions store decisions)

-- ---- the breaks in use

abbrev pub is_mark_of : List ℕ → Option Mark → Bool
is_mark_of id mark = is_this_break id (option_map mark_id mark)

-- the segments before this number
abbrev pub gone_before : ℕ → List Marked → List Marked
gone_before number [] = []
gone_before number (s ∷ before) = if nat_le number s.segment.media_sequence then gone_before number before else s ∷ before

-- the place of the item of the segment of this number
abbrev pub item_place : ℕ → List Marked → ℕ
item_place number history = newest_place (up_to number history)

-- what a window that starts at this place has before the item of its first shown segment: the rest of the pod before that. The
-- place counts `more` items that stand before those of this history
abbrev pub rest_over : ℕ → ℕ → ℕ → List Marked → Option PodRest
rest_over more start number history =
    if nat_lt start (item_place number history + more)
    then option_map (λ (mark : Mark). record { mark = mark; place = start - (newest_place (gone_before number history) + more) }) (newest_mark (gone_before number history))
    else None

abbrev pub rest_before : ℕ → ℕ → List Marked → Option PodRest
rest_before start number history = rest_over 0 start number history

abbrev pub rest_id : Option PodRest → Option (List ℕ)
rest_id None = None
rest_id (Some rest) = Some rest.mark.id

abbrev pub ids_of_option : Option (List ℕ) → List (List ℕ)
ids_of_option None = []
ids_of_option (Some id) = id ∷ []

-- the breaks that mark the segments from a number on, the oldest first
abbrev pub marks_from : ℕ → List Marked → List (List ℕ)
marks_from first [] = []
marks_from first (s ∷ before) =
    marks_from first before ++ (if nat_le first s.segment.media_sequence then ids_of_option (option_map mark_id s.mark) else [])

-- with the one that was entered last, and the one with the rest of whose pod the window starts
abbrev pub in_use_with : ℕ → List Marked → Option (List ℕ) → Option PodRest → List (List ℕ)
in_use_with first history last rest = marks_from first history ++ (ids_of_option last ++ ids_of_option (rest_id rest))

-- the breaks in use, if the window starts at this place and its first shown segment has this number: each of which a
-- segment of the pod is written, and the last one entered
abbrev pub breaks_in_use : ℕ → ℕ → List Marked → List (List ℕ)
breaks_in_use start first history = in_use_with first history (last_entered history) (rest_before start first history)

abbrev pub in_use : ℕ → ℕ → List Marked → List ℕ → Bool
in_use start first history id = is_one_of (breaks_in_use start first history) id

-- ---- refreshes

abbrev pub last_playlist : List Accepted → Option Playlist
last_playlist [] = None
last_playlist (refresh ∷ before) = Some refresh.playlist

abbrev pub acceptance : Told → Playlist → Accepted
acceptance told playlist = record { playlist = playlist; carried = option_map mark_id (newest_mark told.history) }

abbrev pub moment : ℕ → Told → Playlist → Moment
moment tolerance told playlist = record {
  tolerance = tolerance;
  target_duration = playlist.target_duration;
  with_init_sections = has_init_sections playlist.segments;
  breaks = known (acceptance told playlist ∷ told.accepted);
  store = told.store;
}

-- the rest that the last window starts with
abbrev pub rest_by : Option Playlist → ℕ → List Marked → Option PodRest
rest_by None start history = None
rest_by (Some last) start history = rest_before start (first_number last.segments) history

-- where the window starts after a refresh: where the one before did, if the first shown segment is the same; else at the item
-- of the first shown segment, but no later than one past the last item written before
abbrev pub start_after : Option Playlist → ℕ → List Marked → Playlist → List Marked → ℕ
start_after None start before playlist history = item_place (first_number playlist.segments) history
start_after (Some last) start before playlist history =
    if first_number playlist.segments == first_number last.segments then start
    else min (item_place (first_number playlist.segments) history) (length (due_stitched last.end_list before))

-- a break in use has its pod from then on, one that was entered with the fallback a copy of it; that of any other break that was
-- used goes
abbrev pub after_refresh : ℕ → Told → Playlist → Told
after_refresh tolerance told playlist =
    let history = history_after (moment tolerance told playlist) told.history playlist in
    let start = start_after (last_playlist told.accepted) told.start told.history playlist history in
    record {
      accepted = acceptance told playlist ∷ told.accepted;
      history = history;
      store = kept_in_use (breaks_in_use start (first_number playlist.segments) history) told.store;
      start = start;
    }

abbrev pub has_ended : List Accepted → Bool
has_ended [] = false
has_ended (refresh ∷ before) = refresh.playlist.end_list

-- the stitched list of all segments ever shown: its newest run is open until the last playlist has ended
abbrev pub whole_stitched_list : Told → List Item
whole_stitched_list told = due_list (has_ended told.accepted) told.history

abbrev pub number_range_fault : Told → Option RefreshFault
number_range_fault told = fault_if (not (list_all can_be_numbered (whole_stitched_list told))) NumberRange

abbrev pub succession_fault : Option Playlist → Playlist → Option RefreshFault
succession_fault None playlist = None
succession_fault (Some last) playlist = successor_fault last playlist

-- why a readable refresh is refused, if it is
abbrev pub refusal : ℕ → Told → Playlist → Option RefreshFault
refusal tolerance told playlist =
    or_earlier (succession_fault (last_playlist told.accepted) playlist) (number_range_fault (after_refresh tolerance told playlist))

abbrev pub happens : ℕ → Told → Event → Told
happens tolerance told (decided decisions) = record told { store = decide decisions told.store }
happens tolerance told (refreshed playlist) =
    if is_none (refusal tolerance told playlist) then after_refresh tolerance told playlist else told

abbrev pub nothing_told : Told
nothing_told = record { accepted = []; history = []; store = nothing_decided; start = 0 }

-- what these events tell, the newest event first
abbrev pub told : ℕ → List Event → Told
told tolerance [] = nothing_told
told tolerance (event ∷ before) = happens tolerance (told tolerance before) event

-- ---- what is written

-- an item as a segment of the written playlist: with the item's numbers (RFC 8216, 4.3.3.2 and 4.3.3.3), stating
-- the item's instant if it has one (4.3.2.6)
abbrev pub item_segment : Item → Segment
item_segment item =
    record item.piece.segment {
      media_sequence = item.numbers.media_sequence;
      discontinuity_sequence = item.numbers.discontinuity_sequence;
      discontinuities = item.numbers.discontinuities;
      program_date_time = item.piece.instant;
    }

abbrev pub states_instant : Item → Bool
states_instant item = is_some item.piece.instant

-- the written part of the stitched list
abbrev pub window_from : ℕ → List Marked → Playlist → List Item
window_from start history playlist = reverse (from_place start (due_list playlist.end_list history))

abbrev pub window_after : Told → Playlist → List Item
window_after told playlist = window_from told.start told.history playlist

-- the origin's date ranges but those of the breaks in use; none if no written segment states a time, since a date range
-- has its place by the segments' times alone (4.3.2.7)
abbrev pub date_ranges_left : Bool → List (List ℕ) → List DateRange → List DateRange
date_ranges_left stated ids date_ranges = if stated then filter (λ (r : DateRange). not (is_one_of ids r.id)) date_ranges else []

abbrev pub written_date_ranges : Told → Playlist → List DateRange
written_date_ranges told playlist =
    date_ranges_left (list_any states_instant (window_after told playlist)) (breaks_in_use told.start (first_number playlist.segments) told.history) playlist.date_ranges

-- a date range is written as its line was read
abbrev pub date_range_text : DateRange → List ℕ
date_range_text one = one.attributes

-- the playlist with these date ranges and segments in place of its own, of version 6 at least, which the written tags need (7)
abbrev pub playlist_with : Playlist → List DateRange → List Segment → Playlist
playlist_with playlist date_ranges segments = record playlist { version = max playlist.version 6; date_ranges = date_ranges; segments = segments }

-- the playlist owed after this refresh was accepted: the window in place of its segments, and the date ranges that are left
abbrev pub owed_for : Told → Playlist → Playlist
owed_for told playlist = playlist_with playlist (written_date_ranges told playlist) (map item_segment (window_after told playlist))

-- the playlist owed: none before the first accepted refresh
abbrev pub owed : Told → Option Playlist
owed told = option_map (owed_for told) (last_playlist told.accepted)
