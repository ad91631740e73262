-- What a channel keeps: one window and a few numbers, and no history.
use Rattle.std.specs.Prelude.{ℕ, ◌+◌, ◌==◌, Bool, not, nat_le, List, [], ◌∷◌, ◌++◌, map, filter, min, reverse, length, Option, Some, None, option_map, if◌then◌else◌}
use Rattle.std.specs.List.{list_all, list_any}
use Rattle.playlist_model.specs.Segments.{Segment}
use Rattle.playlist_model.specs.declared.DateRange.{DateRange}
use Rattle.playlist_model.specs.declared.Playlist.{Playlist}
use Rattle.channel_spec.specs.declared.heading.Heading.{Heading}
use Rattle.playlist_model.specs.LookBack.{or_earlier}
use Rattle.pod_store.specs.Marks.{Mark, Marked, newest_mark, continues}
use Rattle.stitcher.specs.Stitched.{Numbers, Piece, Item, can_be_numbered, numbered, first_numbers, from_place}
use Rattle.stitcher.specs.Paced.{PodRest, rest_pieces, run_length, due_with}
use Rattle.pod_store.specs.Store.{Store, kept_in_use}
use Rattle.pod_store.specs.Pods.{total}
use Rattle.channel_spec.specs.declared.fault.RefreshFault.{RefreshFault}
use Rattle.channel_spec.specs.declared.fault.RefreshFault.TheVariants.{NumberRange}
use Rattle.break_finder.specs.Known.{Accepted, known}
use Rattle.break_finder.specs.Breaks.{Break}
use Rattle.channel_spec.specs.Marking.{Moment, mark_id, last_entered, next_mark, segment_instant, is_new}
use Rattle.channel_spec.specs.Successor.{owed_heading_of, following_fault, first_number, has_init_sections, fault_if}
use Rattle.channel_spec.specs.Live.{Told, last_playlist, item_place, rest_over, rest_by, in_use_with, date_ranges_left, window_from, item_segment, states_instant, playlist_with}
use Rattle.break_finder.specs.Known.{carry}

-- the store, the known breaks, the heading of the last playlist, the segments that it shows (the newest first), the last break
-- entered, the numbers of the window's first item, how long the newest run has lasted, and the rest of a pod that the
-- window starts with
pub record Kept : Type 0 where
  pub store : Store
  pub breaks : List Break
  pub last : Option Heading
  pub shown : List Marked
  pub entered : Option (List ℕ)
  pub numbers : Numbers
  pub so_far : ℕ
  pub rest : Option PodRest

-- ---- what is kept of all that was told

-- the segments from a number on
abbrev pub shown_from : ℕ → List Marked → List Marked
shown_from first [] = []
shown_from first (s ∷ before) = if nat_le first s.segment.media_sequence then s ∷ shown_from first before else []

abbrev pub head_numbers : List Item → Numbers
head_numbers [] = record { media_sequence = 0; discontinuity_sequence = 0; discontinuities = 0 }
head_numbers (item ∷ later) = item.numbers

abbrev pub origin_segment : Marked → Segment
origin_segment m = m.segment

-- the segments of a history as a playlist lists them, the oldest first
abbrev pub listed : List Marked → List Segment
listed history = map origin_segment (reverse history)

abbrev pub shown_by : Option Playlist → List Marked → List Marked
shown_by None history = []
shown_by (Some p) history = shown_from (first_number p.segments) history

abbrev pub window_by : Option Playlist → ℕ → List Marked → List Item
window_by None start history = []
window_by (Some p) start history = window_from start history p

-- of the length of a run no more counts than a nanosecond above its pod's total: all of the pod is due then, also if it
-- ends in segments that last nothing
abbrev pub capped : Option Mark → ℕ → ℕ
capped None length = 0
capped (Some mark) length = min length (total mark.pod + 1)

abbrev pub kept_of : Told → Kept
kept_of told = record {
  store = told.store;
  breaks = known told.accepted;
  last = option_map owed_heading_of (last_playlist told.accepted);
  shown = shown_by (last_playlist told.accepted) told.history;
  entered = last_entered told.history;
  numbers = head_numbers (window_by (last_playlist told.accepted) told.start told.history);
  so_far = capped (newest_mark told.history) (run_length told.history);
  rest = rest_by (last_playlist told.accepted) told.start told.history;
}

-- ---- a refresh, from what is kept alone

abbrev pub kept_acceptance : Kept → Playlist → Accepted
kept_acceptance kept playlist = record { playlist = playlist; carried = option_map mark_id (newest_mark kept.shown) }

abbrev pub kept_moment : ℕ → Kept → Playlist → Moment
kept_moment tolerance kept playlist = record {
  tolerance = tolerance;
  target_duration = playlist.target_duration;
  with_init_sections = has_init_sections playlist.segments;
  breaks = carry (kept_acceptance kept playlist) kept.breaks;
  store = kept.store;
}

abbrev pub marked_on : Moment → List Marked → Option (List ℕ) → Segment → List Segment → Marked
marked_on m before entered s later = record {
  segment = s;
  instant = segment_instant before s later;
  mark = next_mark m (newest_mark before) entered (segment_instant before s later);
}

abbrev pub entered_with : Option Mark → Option (List ℕ) → Option (List ℕ)
entered_with mark entered = or_earlier (option_map mark_id mark) entered

-- the new segments with their marks, before those that were shown
abbrev pub show_on : Moment → List Marked → Option (List ℕ) → List Segment → List Marked
show_on m before entered [] = before
show_on m before entered (s ∷ later) =
    show_on m (marked_on m before entered s later ∷ before) (entered_with (marked_on m before entered s later).mark entered) later

-- the segments that were shown and the new ones
abbrev pub kept_list : ℕ → Kept → Playlist → List Marked
kept_list tolerance kept playlist =
    show_on (kept_moment tolerance kept playlist) kept.shown kept.entered (filter (is_new kept.shown) playlist.segments)

abbrev pub numbers_on : Option Heading → Numbers → List Marked → Numbers
numbers_on None numbers list = first_numbers list
numbers_on (Some last) numbers list = numbers

-- the newest run's length with one more segment
abbrev pub extended : Marked → List Marked → ℕ → ℕ
extended s before so_far = capped s.mark (s.segment.duration + (if continues s before then so_far else 0))

abbrev pub length_on : Moment → List Marked → Option (List ℕ) → ℕ → List Segment → ℕ
length_on m before entered so_far [] = so_far
length_on m before entered so_far (s ∷ later) =
    length_on m (marked_on m before entered s later ∷ before) (entered_with (marked_on m before entered s later).mark entered)
    (extended (marked_on m before entered s later) before so_far) later

abbrev pub kept_length : ℕ → Kept → Playlist → ℕ
kept_length tolerance kept playlist =
    length_on (kept_moment tolerance kept playlist) kept.shown kept.entered kept.so_far (filter (is_new kept.shown) playlist.segments)

-- the stitched list of these segments, after a rest
abbrev pub stitched_on : Bool → ℕ → List Marked → Option PodRest → List Piece
stitched_on whole so_far list rest = due_with whole so_far list ++ rest_pieces rest

-- the stitched list from the item on that the last window started with, if these segments are shown then, the newest run of
-- which has lasted so long
abbrev pub items_on : Kept → Playlist → List Marked → ℕ → List Item
items_on kept playlist list so_far =
    numbered (numbers_on kept.last kept.numbers list) (stitched_on playlist.end_list so_far list kept.rest)

-- where the next window starts, counted from there
abbrev pub start_on : Option Heading → ℕ → Kept → List Marked → ℕ
start_on None number kept list = item_place number list
start_on (Some last) number kept list =
    if number == first_number (listed kept.shown) then 0
    else min (item_place number list + length (rest_pieces kept.rest)) (length (stitched_on last.end_list kept.so_far kept.shown kept.rest))

abbrev pub window_on : Kept → Playlist → List Marked → ℕ → List Item
window_on kept playlist list so_far =
    reverse (from_place (start_on kept.last (first_number playlist.segments) kept list) (items_on kept playlist list so_far))

-- the rest that the next window starts with, if the last one showed the segments from `first` on
abbrev pub next_rest : Option Heading → ℕ → ℕ → ℕ → List Marked → Option PodRest → Option PodRest
next_rest None first number start list rest = None
next_rest (Some last) first number start list rest =
    if number == first then rest else rest_over (length (rest_pieces rest)) start number list

abbrev pub rest_after : Kept → Playlist → List Marked → Option PodRest
rest_after kept playlist list =
    next_rest kept.last (first_number (listed kept.shown)) (first_number playlist.segments) (start_on kept.last (first_number playlist.segments) kept list) list kept.rest

abbrev pub kept_items : ℕ → Kept → Playlist → List Item
kept_items tolerance kept playlist = items_on kept playlist (kept_list tolerance kept playlist) (kept_length tolerance kept playlist)

abbrev pub kept_window : ℕ → Kept → Playlist → List Item
kept_window tolerance kept playlist = window_on kept playlist (kept_list tolerance kept playlist) (kept_length tolerance kept playlist)

abbrev pub kept_rest : ℕ → Kept → Playlist → Option PodRest
kept_rest tolerance kept playlist = rest_after kept playlist (kept_list tolerance kept playlist)

abbrev pub kept_entered : ℕ → Kept → Playlist → Option (List ℕ)
kept_entered tolerance kept playlist = or_earlier (last_entered (kept_list tolerance kept playlist)) kept.entered

-- the breaks in use, which have their pods from then on
abbrev pub kept_breaks : ℕ → Kept → Playlist → List (List ℕ)
kept_breaks tolerance kept playlist =
    in_use_with (first_number playlist.segments) (kept_list tolerance kept playlist) (kept_entered tolerance kept playlist) (kept_rest tolerance kept playlist)

-- why a playlist may not follow one of this heading that showed these segments, if it may not
abbrev pub succession_on : Option Heading → List Segment → Playlist → Option RefreshFault
succession_on None segments playlist = None
succession_on (Some last) segments playlist = following_fault last segments playlist

-- it is asked of the shown segments, and not of those of the last playlist
abbrev pub kept_succession : Kept → Playlist → Option RefreshFault
kept_succession kept playlist = succession_on kept.last (listed kept.shown) playlist

-- why a readable refresh is refused, if it is
abbrev pub kept_refusal : ℕ → Kept → Playlist → Option RefreshFault
kept_refusal tolerance kept playlist =
    or_earlier (kept_succession kept playlist)
    (fault_if (not (list_all can_be_numbered (kept_items tolerance kept playlist))) NumberRange)

-- what is kept after an accepted refresh
abbrev pub kept_after : ℕ → Kept → Playlist → Kept
kept_after tolerance kept playlist = record {
  store = kept_in_use (kept_breaks tolerance kept playlist) kept.store;
  breaks = carry (kept_acceptance kept playlist) kept.breaks;
  last = Some (owed_heading_of playlist);
  shown = shown_from (first_number playlist.segments) (kept_list tolerance kept playlist);
  entered = kept_entered tolerance kept playlist;
  numbers = head_numbers (kept_window tolerance kept playlist);
  so_far = kept_length tolerance kept playlist;
  rest = kept_rest tolerance kept playlist;
}

-- the playlist that is owed then
abbrev pub date_ranges_after : ℕ → Kept → Playlist → List DateRange
date_ranges_after tolerance kept playlist =
    date_ranges_left (list_any states_instant (kept_window tolerance kept playlist)) (kept_breaks tolerance kept playlist) playlist.date_ranges

abbrev pub kept_owed : ℕ → Kept → Playlist → Playlist
kept_owed tolerance kept playlist =
    playlist_with playlist (date_ranges_after tolerance kept playlist) (map item_segment (kept_window tolerance kept playlist))
