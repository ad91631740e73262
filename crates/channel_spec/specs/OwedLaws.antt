-- Laws of the owed playlist, in the words of a playlist: its header, its segments, its date ranges; and of the store.
use Rattle.std.specs.Prelude.{◌≡◌, ◌≤◌, ℕ, Bool, true, not, ◌&&◌, ◌||◌, List, [], ◌∷◌, ◌++◌, map, filter, reverse, length, max, ℤ, Option, Some, None, is_some, is_none, if◌then◌else◌}
use Rattle.std.specs.List.{AllByRecursion, list_any}
use Rattle.playlist_model.specs.Segments.{Segment}
use Rattle.playlist_model.specs.declared.DateRange.{DateRange}
use Rattle.playlist_model.specs.declared.Playlist.{Playlist}
use Rattle.playlist_model.specs.Instants.{instants_of}
use Rattle.playlist_model.specs.Numbering.{segment_numbers, numbers_rise}
use Rattle.pod_store.specs.Marks.{Marked}
use Rattle.stitcher.specs.Stitched.{Piece, Item, is_kept}
use Rattle.stitcher.specs.Paced.{run_length, due_with, rest_pieces}
use Rattle.pod_store.specs.Store.{own_pod, pod_for, is_named, is_used}
use Rattle.pod_store.specs.Laws.{are_distinct}
use Rattle.break_finder.specs.Known.{is_this_break}
use Rattle.channel_spec.specs.Marking.{last_entered}
use Rattle.channel_spec.specs.Successor.{first_number}
use Rattle.channel_spec.specs.Live.{Event, refreshed, Told, told, last_playlist, refusal, rest_by, in_use, window_after, owed}
use Rattle.channel_spec.specs.Kept.{shown_by, origin_segment}
use Rattle.channel_spec.specs.Sound.{IsSoundEvent}
use Rattle.channel_spec.specs.BreakLaws.{is_of_pod}

-- after these events this playlist was accepted last, and this one is owed
pub record IsOwed (tolerance : ℕ) (events : List Event) (last now : Playlist) : Type 0 where
  pub sound : AllByRecursion IsSoundEvent events
  pub accepted : last_playlist (told tolerance events).accepted ≡ Some last
  pub owed : owed (told tolerance events) ≡ Some now

-- ---- the header (RFC 8216, 4.3.1.2, 4.3.3, 4.3.5.1)

-- it is that of the last accepted playlist, of version 6 at least
pub record HasHeaderOf (last now : Playlist) : Type 0 where
  pub version : now.version ≡ max last.version 6
  pub target_duration : now.target_duration ≡ last.target_duration
  pub playlist_type : now.playlist_type ≡ last.playlist_type
  pub independent_segments : now.independent_segments ≡ last.independent_segments
  pub end_list : now.end_list ≡ last.end_list

abbrev pub HeaderIsTheLast : Type 0
HeaderIsTheLast = (tolerance : ℕ) (events : List Event) (last now : Playlist) → IsOwed tolerance events last now → HasHeaderOf last now

-- ---- date ranges (4.3.2.7)

abbrev pub states_time : Segment → Bool
states_time s = is_some s.program_date_time

-- a segment of the break's pod is written, or it is the last one entered
abbrev pub is_played : Told → Playlist → List ℕ → Bool
is_played t last id = list_any (is_of_pod id) (window_after t last) || is_this_break id (last_entered t.history)

-- a date range of the origin is written word for word exactly if its break isn't played and a written segment states a time
abbrev pub DateRangesAreTheOrigins : Type 0
DateRangesAreTheOrigins = (tolerance : ℕ) (events : List Event) (last now : Playlist) → IsOwed tolerance events last now →
    now.date_ranges ≡ filter (λ (r : DateRange). list_any states_time now.segments && not (is_played (told tolerance events) last r.id)) last.date_ranges

-- ---- segments

abbrev pub piece_of : Item → Piece
piece_of item = item.piece

abbrev pub piece_segment : Piece → Segment
piece_segment p = p.segment

-- the window, the newest first, is what stands for the shown segments, of the pod of an open run as much as is due, and before
-- that the rest of one pod
abbrev pub WindowIsStitched : Type 0
WindowIsStitched = (tolerance : ℕ) (events : List Event) (last now : Playlist) → IsOwed tolerance events last now →
    let t = told tolerance events in
    map piece_of (window_after t last)
    ≡ reverse (due_with last.end_list (run_length t.history) (shown_by (Some last) t.history) ++ rest_pieces (rest_by (Some last) t.start t.history))

abbrev pub is_unmarked : Marked → Bool
is_unmarked s = is_none s.mark

-- the origin's segments in it are the unmarked ones of those that are shown, each once and in their order
abbrev pub UnmarkedStandOnce : Type 0
UnmarkedStandOnce = (tolerance : ℕ) (events : List Event) (last now : Playlist) → IsOwed tolerance events last now →
    let t = told tolerance events in
    map piece_segment (filter is_kept (map piece_of (window_after t last))) ≡ map origin_segment (filter is_unmarked (reverse (shown_by (Some last) t.history)))

-- what is played of a segment: its resource with its byte range, keys, initialisation section, duration and title
pub record PlaysAs (piece now : Segment) : Type 0 where
  pub uri : now.uri ≡ piece.uri
  pub byte_range : now.byte_range ≡ piece.byte_range
  pub keys : now.keys ≡ piece.keys
  pub init_section : now.init_section ≡ piece.init_section
  pub duration : now.duration ≡ piece.duration
  pub title : now.title ≡ piece.title

abbrev pub PlayAs : List Item → List Segment → Type 0
PlayAs [] segments = segments ≡ []
PlayAs (item ∷ items) [] = (item ∷ items) ≡ []
PlayAs (item ∷ items) (s ∷ segments) = PlaysAs item.piece.segment s × PlayAs items segments

-- the owed segments play what the window's pieces play, one for one
abbrev pub SegmentsPlayTheWindow : Type 0
SegmentsPlayTheWindow = (tolerance : ℕ) (events : List Event) (last now : Playlist) → IsOwed tolerance events last now →
    PlayAs (window_after (told tolerance events) last) now.segments

-- ---- if nothing is decided

-- these segments, which state these instants in place of their own times
abbrev pub with_times : List Segment → List (Option ℤ) → List Segment
with_times [] instants = []
with_times (s ∷ later) [] = s ∷ later
with_times (s ∷ later) (instant ∷ instants) = record s { program_date_time = instant } ∷ with_times later instants

-- without decisions the playlist that is owed after a first refresh has the segments that were read, under their own numbers,
-- each of which states the instant at which it begins, if it has one (4.3.2.6); and the date ranges that were read, if one
-- does
abbrev pub NothingDecidedNothingChanged : Type 0
NothingDecidedNothingChanged = (tolerance : ℕ) (playlist now : Playlist) → IsOwed tolerance (refreshed playlist ∷ []) playlist now →
    numbers_rise segment_numbers playlist.segments ≡ true →
    (now.segments ≡ with_times playlist.segments (instants_of playlist.segments))
    × (now.date_ranges ≡ (if list_any states_time now.segments then playlist.date_ranges else []))

-- ---- the store

-- after an accepted refresh a break has a pod of its own exactly if it is in use and was filled, or if a decision gave it
-- one and it wasn't entered
abbrev pub PodsAreKept : Type 0
PodsAreKept = (tolerance : ℕ) (playlist : Playlist) (before : List Event) (id : List ℕ) → refusal tolerance (told tolerance before) playlist ≡ None →
    let was = (told tolerance before).store in
    let now = told tolerance (refreshed playlist ∷ before) in
    own_pod now.store id ≡ (if in_use now.start (first_number playlist.segments) now.history id then pod_for was id else (if is_used was id then None else own_pod was id))

-- no break stands twice in the store, and at most 256 have pods that decisions gave them
abbrev pub StoreStaysSmall : Type 0
StoreStaysSmall = (tolerance : ℕ) (events : List Event) →
    (are_distinct (told tolerance events).store.entries ≡ true) × (length (filter is_named (told tolerance events).store.entries) ≤ 256)
