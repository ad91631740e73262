-- Which break marks a segment, and the history after a refresh. A history has its newest segment first.
use Rattle.std.specs.Prelude.{ℕ, Bool, true, List, [], ◌∷◌, filter, nat_lt, ℤ, Option, Some, None, option_map, if◌then◌else◌}
use Rattle.playlist_model.specs.Instants.{begins_at, ends_at}
use Rattle.playlist_model.specs.Segments.{Segment}
use Rattle.playlist_model.specs.declared.Playlist.{Playlist}
use Rattle.playlist_model.specs.LookBack.{or_earlier}
use Rattle.pod_store.specs.Marks.{Mark, Marked, newest_mark, mark_in}
use Rattle.pod_store.specs.Store.{Store}
use Rattle.break_finder.specs.Breaks.{Break}
use Rattle.break_finder.specs.Entering as entering

-- ---- instants

-- where the newest segment ends
abbrev pub newest_end : List Marked → Option ℤ
newest_end [] = None
newest_end (s ∷ before) = ends_at s.instant s.segment.duration

-- the instant of a segment after this history; `later` are those after it in the refresh
abbrev pub segment_instant : List Marked → Segment → List Segment → Option ℤ
segment_instant before s later = begins_at (newest_end before) s later

-- ---- marks

-- what holds at a refresh
pub record Moment : Type 0 where
  pub tolerance : ℕ
  pub target_duration : ℕ
  pub with_init_sections : Bool
  pub breaks : List Break
  pub store : Store

-- the last break entered: the mark of the newest segment that has one
abbrev pub last_mark : List Marked → Option Mark
last_mark [] = None
last_mark (s ∷ before) = or_earlier s.mark (last_mark before)

abbrev pub mark_id : Mark → List ℕ
mark_id mark = mark.id

abbrev pub last_entered : List Marked → Option (List ℕ)
last_entered before = option_map mark_id (last_mark before)

abbrev pub is_inside : Moment → Option ℤ → Mark → Bool
is_inside m instant f = entering.is_inside m.breaks f.id instant m.tolerance f.pod

-- the mark of the segment before, if this one is inside that break
abbrev pub continued : Moment → Option ℤ → Option Mark → Option Mark
continued m instant None = None
continued m instant (Some f) = if is_inside m instant f then Some f else None

-- what breaks are entered by, after this last break entered
abbrev pub limits : Moment → Option (List ℕ) → entering.EntryLimits
limits m last = record { tolerance = m.tolerance; target_duration = m.target_duration; with_init_sections = m.with_init_sections; last = last }

-- the first known, signalled, decided, fitting break that is entered here and isn't the last one entered
abbrev pub entered : Moment → Option ℤ → Option (List ℕ) → Option Mark
entered m instant last = mark_in m.store (entering.entered (limits m last) m.store m.breaks instant)

-- the mark of a segment that begins at this instant, after a segment of this mark and after that last break entered
abbrev pub next_mark : Moment → Option Mark → Option (List ℕ) → Option ℤ → Option Mark
next_mark m newest last instant = or_earlier (continued m instant newest) (entered m instant last)

abbrev pub mark_of : Moment → List Marked → Option ℤ → Option Mark
mark_of m before instant = next_mark m (newest_mark before) (last_entered before) instant

-- ---- the history after more segments

abbrev pub next_shown : Moment → List Marked → Segment → List Segment → Marked
next_shown m before s later = record {
  segment = s;
  instant = segment_instant before s later;
  mark = mark_of m before (segment_instant before s later);
}

abbrev pub show_all : Moment → List Marked → List Segment → List Marked
show_all m history [] = history
show_all m history (s ∷ later) = show_all m (next_shown m history s later ∷ history) later

abbrev pub is_new : List Marked → Segment → Bool
is_new [] s = true
is_new (newest ∷ before) s = nat_lt newest.segment.media_sequence s.media_sequence

abbrev pub history_after : Moment → List Marked → Playlist → List Marked
history_after m history playlist = show_all m history (filter (is_new history) playlist.segments)
