-- What holds of all that a list of events tells: all of it can be written.
use Rattle.std.proofs.Common.{◌≡◌, ℕ, ◌+◌, ℤ, Bool, true, false, cond, List, [], ◌∷◌, ap, ◌∙◌, arith}
use Rattle.std.specs.Prelude.{Option, Some, None, is_none, filter, nat_le, ◌&&◌}
use Rattle.std.specs.List.{list_all, AllByRecursion}
use Rattle.std.proofs.lemmas.Bool.{and_from, and_parts}
use Rattle.std.proofs.lemmas.Bool.Decides.{nat_tests}
use Rattle.playlist_model.specs.Segments.{Segment}
use Rattle.playlist_model.specs.declared.Playlist.{Playlist}
use Rattle.date_times.specs.Instant.{in_range}
use Rattle.playlist_model.specs.Instants.{begins_at}
use Rattle.pod_store.specs.Pods.{Pod}
use Rattle.pod_store.specs.Marks.{Mark, Marked, newest_mark}
use Rattle.stitcher.specs.Stitched.{Numbers, numbers_from, first_numbers}
use Rattle.writable.specs.Fitting.{if_some, is_clean, effective_keys_fit, init_section_fits}
use Rattle.playlist_write.specs.WellFormed.{well_formed_resource_fits, duration_fits}
use Rattle.read_is_writable.specs.Read.{segment_can_be_written, numbers_are_words, numbers_read}
use Rattle.channel_spec.specs.Marking.{Moment, segment_instant, newest_end, next_shown, show_all, is_new, history_after}
use Rattle.channel_spec.specs.Successor.{first_number}
use Rattle.channel_spec.specs.Live.{Event, decided, refreshed, Told, told, happens, refusal, after_refresh, moment, breaks_in_use, start_after, last_playlist}
use Rattle.channel_spec.proofs.Growth.{history_grows, first_numbers_stay}
use Rattle.owed_is_denoted.proofs.Writable.{pod_can_be_written, kept_is_written}
use Rattle.owed_is_denoted.specs.Laws.{CanBeRead, KeepsRules, CanBeGiven}
use Rattle.owed_is_denoted.proofs.Given.{all_of}
use Rattle.owed_is_denoted.proofs.AllPods.{Pods, OfMark, all_filter, decide_pods, kept_pods, marks_of}
use Rattle.owed_is_denoted.proofs.Pieces.{can_stand, Stands}

abbrev IsWritten : Pod → Type 0
IsWritten pod = pod_can_be_written pod ≡ true

-- ---- the history

abbrev stands_with : Bool → Segment → Option ℤ → Bool
stands_with words s time =
    words && well_formed_resource_fits s && effective_keys_fit s.keys && if_some init_section_fits s.init_section && duration_fits s.duration && is_clean s.title
    && if_some in_range time

other_time : (words : Bool) (s : Segment) (before time : Option ℤ) → stands_with words s before ≡ true → if_some in_range time ≡ true → can_stand s time ≡ true
other_time false s before time h t = absurd (cc)
other_time true s before time h t = and_from _ _ (and_parts _ _ h).0 t

in_range_there : (ended : Option ℤ) (s : Segment) (later : List Segment) → if_some in_range (begins_at ended s later) ≡ true
in_range_there ended s later = grind arith

newest_of : (history : List Marked) → AllByRecursion Stands history → OfMark IsWritten (newest_mark history)
newest_of [] h = tt
newest_of (s ∷ before) h = h.0.mark

abbrev IsFine : Segment → Type 0
IsFine s = segment_can_be_written s ≡ true

show_stands : (m : Moment) (history : List Marked) (segments : List Segment) → Pods IsWritten m.store → AllByRecursion Stands history → AllByRecursion IsFine segments → AllByRecursion Stands (show_all m history segments)
show_stands m history [] k h a = h
show_stands m history (s ∷ later) k h a =
    let instant = segment_instant history s later in
    let here : Stands (next_shown m history s later) = record {
      segment = other_time (numbers_are_words s) s s.program_date_time instant a.0 (in_range_there (newest_end history) s later);
      mark = marks_of IsWritten m history instant k (newest_of history h);
    } in
    show_stands m (next_shown m history s later ∷ history) later k (here, h) a.1

-- ---- the first numbers

abbrev pub HasFirst : List Marked → Type 0
HasFirst history = nat_le (first_numbers history).discontinuities (first_numbers history).discontinuity_sequence ≡ true

one_more : (n : ℕ) → nat_le 1 (n + 1) ≡ true
one_more n = grind (arith, nat_tests)

from_first : (s : Segment) (mark : Option Mark) → nat_le s.discontinuities s.discontinuity_sequence ≡ true → nat_le (numbers_from s mark).discontinuities (numbers_from s mark).discontinuity_sequence ≡ true
from_first s None h = h
from_first s (Some mark) h = one_more s.discontinuity_sequence

first_stays : (m : Moment) (s : Marked) (before : List Marked) (segments : List Segment) → HasFirst (s ∷ before) → HasFirst (show_all m (s ∷ before) segments)
first_stays m s before segments h =
    let g = history_grows m (s ∷ before) segments in
    let same : first_numbers (show_all m (s ∷ before) segments) ≡ first_numbers (s ∷ before) = ap first_numbers g.1 ∙ first_numbers_stay g.0 s before in
    ap (λ (n : Numbers). nat_le n.discontinuities n.discontinuity_sequence) same ∙ h

first_begins : (m : Moment) (segments : List Segment) → numbers_read segments ≡ true → HasFirst (show_all m [] (filter (is_new []) segments))
first_begins m segments h = grind (arith, first_stays, from_first, and_parts)

first_after : (m : Moment) (history : List Marked) (p : Playlist) → HasFirst history → numbers_read p.segments ≡ true → HasFirst (history_after m history p)
first_after m history p h n = grind (arith, first_begins, first_stays)

-- ---- all events

pub record Good (t : Told) : Type 0 where
  pub pods : Pods IsWritten t.store
  pub stands : AllByRecursion Stands t.history
  pub first : HasFirst t.history

fine_segments : (segments : List Segment) → list_all segment_can_be_written segments ≡ true → AllByRecursion IsFine segments
fine_segments [] h = tt
fine_segments (s ∷ later) h = let a = and_parts _ _ h in (a.0, fine_segments later a.1)

pub refresh_good : (tolerance : ℕ) (t : Told) (p : Playlist) → Good t → CanBeRead p → Good (after_refresh tolerance t p)
refresh_good tolerance t p g r =
    let m = moment tolerance t p in
    let history = history_after m t.history p in
    let start = start_after (last_playlist t.accepted) t.start t.history p history in
    record {
      pods = kept_pods IsWritten (breaks_in_use start (first_number p.segments) history) t.store g.pods;
      stands = show_stands m t.history (filter (is_new t.history) p.segments) g.pods g.stands (all_filter IsFine (is_new t.history) p.segments (fine_segments p.segments r.limits.segments));
      first = first_after m t.history p g.first r.limits.numbers;
    }

refusal_step : (b : Bool) (t u : Told) → Good t → Good u → Good (cond b t u)
refusal_step true t u g h = g
refusal_step false t u g h = h

event_good : (tolerance : ℕ) (t : Told) (event : Event) → Good t → CanBeGiven event → Good (happens tolerance t event)
event_good tolerance t (decided ds) g h =
    record {
      pods = decide_pods IsWritten ds t.store (all_of KeepsRules IsWritten ds (λ d k. kept_is_written d k) h) g.pods;
      stands = g.stands;
      first = g.first;
    }
event_good tolerance t (refreshed p) g h = refusal_step (is_none (refusal tolerance t p)) (after_refresh tolerance t p) t (refresh_good tolerance t p g h) g

pub good_told : (tolerance : ℕ) (events : List Event) → AllByRecursion CanBeGiven events → Good (told tolerance events)
good_told tolerance [] h = grind arith
good_told tolerance (event ∷ before) h = grind (arith, event_good, good_told tolerance before h.1)
