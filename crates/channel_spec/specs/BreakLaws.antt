-- Laws of breaks and their pods: when a break is in use, what fills it, how long its pod is shown, and what a window follows
-- from.
use Rattle.std.specs.Prelude.{◌≡◌, ◌≤◌, ℕ, ◌+◌, ◌||◌, Bool, true, false, List, [], ◌∷◌, ◌++◌, reverse, ℤ, Some, None}
use Rattle.std.specs.List.{AllByRecursion, list_any}
use Rattle.playlist_model.specs.Segments.{Segment}
use Rattle.playlist_model.specs.declared.Playlist.{Playlist}
use Rattle.pod_store.specs.Pods.{Pod, total, pod_fits}
use Rattle.pod_store.specs.Marks.{Mark, Marked, newest_mark}
use Rattle.stitcher.specs.Stitched.{Piece, Item, pod_pieces, stitched}
use Rattle.stitcher.specs.Paced.{run_length, older, due, due_stitched}
use Rattle.pod_store.specs.Store.{own_pod}
use Rattle.break_finder.specs.Breaks.{Break, break_end_of, is_not_past_break_end}
use Rattle.break_finder.specs.Entering.{starts_at, enters_break}
use Rattle.break_finder.specs.Known.{known, is_this_break}
use Rattle.channel_spec.specs.Marking.{Moment, limits, continued, segment_instant, next_shown, last_entered}
use Rattle.channel_spec.specs.Successor.{first_number}
use Rattle.channel_spec.specs.Live.{Event, refreshed, Told, told, is_mark_of, in_use, rest_by, last_playlist, has_ended, refusal, window_after}
use Rattle.channel_spec.specs.LiveLaws.{GoesOn, Linked}
use Rattle.channel_spec.specs.Kept.{shown_by, window_by, capped}
use Rattle.channel_spec.specs.Sound.{IsSoundEvent}

-- ---- which breaks are in use

-- the item is a segment of this break's pod
abbrev pub is_of_pod : List ℕ → Item → Bool
is_of_pod id item = is_mark_of id item.piece.mark

-- a break is in use exactly if a segment of its pod is written, or if it is the last one entered
abbrev pub InUseIsWritten : Type 0
InUseIsWritten = (tolerance : ℕ) (events : List Event) (playlist : Playlist) (id : List ℕ) → AllByRecursion IsSoundEvent events →
    last_playlist (told tolerance events).accepted ≡ Some playlist →
    in_use (told tolerance events).start (first_number playlist.segments) (told tolerance events).history id
    ≡ (list_any (is_of_pod id) (window_after (told tolerance events) playlist) || is_this_break id (last_entered (told tolerance events).history))

-- ---- a run and its pod

-- whatever comes later, each segment that was shown keeps its mark, the pod included; and a segment that goes on a run has the
-- pod that the run was entered with
abbrev pub RunsKeepTheirPods : Type 0
RunsKeepTheirPods = (tolerance : ℕ) (later before : List Event) →
    GoesOn (told tolerance before).history (told tolerance (later ++ before)).history × Linked (told tolerance (later ++ before)).history

-- ---- a break without a pod of its own

-- a break begins at a segment after this history: it is known and signalled, and wasn't entered last; the segment begins near
-- its START-DATE, and before its end, if it lasts as long as this pod; the run before ends there, and no break that became
-- known before it is entered there
pub record BeginsBreak (m : Moment) (before : List Marked) (s : Segment) (later : List Segment) (b : Break) (pod : Pod) : Type 0 where
  pub instant : ℤ
  pub begins : segment_instant before s later ≡ Some instant
  pub signalled : starts_at (limits m (last_entered before)) instant b.said ≡ true
  pub not_past : is_not_past_break_end instant m.tolerance (break_end_of b.said (total pod)) ≡ true
  pub not_last : is_this_break b.id (last_entered before) ≡ false
  pub run_ends : continued m (Some instant) (newest_mark before) ≡ None
  pub earlier : List Break
  pub after : List Break
  pub known : m.breaks ≡ earlier ++ (b ∷ after)
  pub first : list_any (enters_break (limits m (last_entered before)) m.store instant) earlier ≡ false

-- such a break is filled with the fallback, if it has no pod of its own and the fallback fits
abbrev pub FallbackFills : Type 0
FallbackFills = (m : Moment) (before : List Marked) (s : Segment) (later : List Segment) (b : Break) (pod : Pod) → BeginsBreak m before s later b pod →
    own_pod m.store b.id ≡ None → m.store.fallback ≡ Some pod → pod_fits m.target_duration m.with_init_sections pod ≡ true →
    ((next_shown m before s later).mark ≡ Some (record { id = b.id; pod = pod }))
    × (due_stitched false (next_shown m before s later ∷ before) ≡ reverse (due s.duration (pod_pieces (record { id = b.id; pod = pod }))) ++ stitched before)

-- ---- the written end

-- how long these pieces last
abbrev pub lasts : List Piece → ℕ
lasts [] = 0
lasts (p ∷ pieces) = p.segment.duration + lasts pieces

-- the list ends in a front of this mark's pod, which without its last segment lasts no longer than the newest run's own segments
pub record EndsNear (history : List Marked) (mark : Mark) : Type 0 where
  pub front : List Piece
  pub last : Piece
  pub stands : due_stitched false history ≡ reverse (front ++ (last ∷ [])) ++ stitched (older history)
  pub near : lasts front ≤ run_length history

-- while a run is open, the written end is later than the end of the run's own segments by at most one segment of its pod
abbrev pub WrittenEndIsNear : Type 0
WrittenEndIsNear = (tolerance : ℕ) (events : List Event) (mark : Mark) → AllByRecursion IsSoundEvent events → has_ended (told tolerance events).accepted ≡ false →
    newest_mark (told tolerance events).history ≡ Some mark → EndsNear (told tolerance events).history mark

-- ---- what a window follows from

-- two lists of events have led to the same: the store, the breaks that are known, the last playlist, the segments that are
-- shown with their marks, the break that was entered last, the window, how long the newest run has lasted, and the rest of a
-- pod that the window starts with
pub record HaveLedToTheSame (a b : Told) : Type 0 where
  pub store : a.store ≡ b.store
  pub breaks : known a.accepted ≡ known b.accepted
  pub playlist : last_playlist a.accepted ≡ last_playlist b.accepted
  pub shown : shown_by (last_playlist a.accepted) a.history ≡ shown_by (last_playlist b.accepted) b.history
  pub entered : last_entered a.history ≡ last_entered b.history
  pub window : window_by (last_playlist a.accepted) a.start a.history ≡ window_by (last_playlist b.accepted) b.start b.history
  pub so_far : capped (newest_mark a.history) (run_length a.history) ≡ capped (newest_mark b.history) (run_length b.history)
  pub rest : rest_by (last_playlist a.accepted) a.start a.history ≡ rest_by (last_playlist b.accepted) b.start b.history

-- a refresh is refused alike after both, writes the same window, and leads to the same again
pub record GoesAlike (tolerance : ℕ) (playlist : Playlist) (one other : List Event) : Type 0 where
  pub refused : refusal tolerance (told tolerance one) playlist ≡ refusal tolerance (told tolerance other) playlist
  pub window : refusal tolerance (told tolerance one) playlist ≡ None →
      window_after (told tolerance (refreshed playlist ∷ one)) playlist ≡ window_after (told tolerance (refreshed playlist ∷ other)) playlist
  pub agree : HaveLedToTheSame (told tolerance (refreshed playlist ∷ one)) (told tolerance (refreshed playlist ∷ other))

-- so nothing else of what came before has a part in a window
abbrev pub WindowsFollow : Type 0
WindowsFollow = (tolerance : ℕ) (playlist : Playlist) (one other : List Event) →
    AllByRecursion IsSoundEvent (refreshed playlist ∷ one) → AllByRecursion IsSoundEvent (refreshed playlist ∷ other) →
    HaveLedToTheSame (told tolerance one) (told tolerance other) → GoesAlike tolerance playlist one other
