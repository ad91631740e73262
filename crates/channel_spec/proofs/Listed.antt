-- Each segment that the origin lists is shown as it is listed.
use Rattle.std.proofs.Common.{◌≡◌, inl, inr, ℕ, ◌+◌, ◌<◌, ◌≤◌, Bool, true, false, cond, List, [], ◌∷◌, map, length, refl, ap, sym, ◌∙◌, subst, arith}
use Rattle.std.proofs.lemmas.Bool.{leb-true, leb-false, ltb-true, ltb-false}
use mathlib.Core.List.{reverse_aux}
use Rattle.std.specs.Prelude.{Option, Some, None, nat_le, nat_lt, filter, is_none}
use Rattle.std.specs.List.{AllByRecursion}
use Rattle.playlist_model.specs.Segments.{Segment}
use Rattle.playlist_model.specs.declared.Playlist.{Playlist}
use Rattle.playlist_model.specs.Same.{kept_parts}
use Rattle.pod_store.specs.Marks.{Marked}
use Rattle.break_finder.specs.Known.{Accepted}
use Rattle.channel_spec.specs.declared.fault.RefreshFault.{RefreshFault}
use Rattle.channel_spec.specs.Marking.{Moment, next_shown, show_all, history_after}
use Rattle.channel_spec.specs.Live.{Event, decided, refreshed, Told, told, happens, after_refresh, refusal, succession_fault, last_playlist}
use Rattle.channel_spec.specs.Kept.{origin_segment, listed, shown_from, shown_by}
use Rattle.channel_spec.specs.Sound.{RiseFrom, IsSoundPlaylist, IsSoundEvent}
use Rattle.channel_spec.specs.Successor.{AgreesWith, MayFollow, first_number, end_number}
use Rattle.channel_spec.specs.ListedLaws.{ShownAreListed}
use Rattle.channel_spec.proofs.Decided.{from_all, no_fault_succeeds}
use Rattle.channel_spec.proofs.EachWindow.{WindowOf, Holds, first_none, holds}
use Rattle.channel_spec.proofs.LiveState.{Standing}
use Rattle.channel_spec.proofs.Risen.{FallFrom}
use Rattle.channel_spec.proofs.Windows.{In, all_from}

-- ---- segments whose numbers rise

within : (n : ℕ) (segments : List Segment) (s : Segment) → RiseFrom n segments → In s segments → (n ≤ s.media_sequence) × (s.media_sequence < n + length segments)
unfolding In
within n [] s r h = absurd h
within n (t ∷ later) s r (inl e) = grind arith
within n (t ∷ later) s r (inr h) = grind (arith, within (n + 1) later s r.1 h)

only : (n : ℕ) (segments : List Segment) (s t : Segment) → RiseFrom n segments → In s segments → In t segments → s.media_sequence ≡ t.media_sequence → s ≡ t
unfolding In
only n [] s t r h k e = absurd h
only n (u ∷ later) s t r (inl a) (inl b) e = a ∙ sym b
only n (u ∷ later) s t r (inl a) (inr b) e = absurd (omega (arith, ap (λ (v : Segment). v.media_sequence) a, r.0, (within (n + 1) later t r.1 b).0, e))
only n (u ∷ later) s t r (inr a) (inl b) e = absurd (omega (arith, ap (λ (v : Segment). v.media_sequence) b, r.0, (within (n + 1) later s r.1 a).0, e))
only n (u ∷ later) s t r (inr a) (inr b) e = only (n + 1) later s t r.1 a b e

-- one has each number in between
record Has (k : ℕ) (segments : List Segment) : Type 0 where
  one : Segment
  inside : In one segments
  is : one.media_sequence ≡ k

has_step : (n k : ℕ) (s : Segment) (later : List Segment) → s.media_sequence ≡ n → (n < k → Has k later) → n ≤ k → (b : Bool) → nat_lt n k ≡ b → Has k (s ∷ later)
unfolding In
has_step n k s later e rec h true t = let f = rec (ltb-true n k t) in record { one = f.one; inside = inr f.inside; is = f.is }
has_step n k s later e rec h false t = record { one = s; inside = inl refl; is = omega (arith, e, h, ltb-false n k t) }

has : (n k : ℕ) (segments : List Segment) → RiseFrom n segments → n ≤ k → k < n + length segments → Has k segments
has n k [] r h l = absurd (omega (arith, h, l))
has n k (s ∷ later) r h l = has_step n k s later r.0 (λ b. has (n + 1) k later r.1 (omega (arith, b)) (omega (arith, l))) h (nat_lt n k) refl

own : (n : ℕ) (segments : List Segment) → RiseFrom n segments → AllByRecursion (AgreesWith segments) segments
own n segments r = grind (arith, all_from, only)

-- ---- a history that agrees with a playlist

abbrev pub Agrees : List Segment → Marked → Type 0
Agrees segments m = AgreesWith segments m.segment

below : (end : ℕ) (history : List Marked) (m : Marked) → FallFrom end history → In m history → m.segment.media_sequence < end
unfolding In
below end [] m f h = absurd h
below end (x ∷ before) m f (inl e) = omega (arith, ap (λ (y : Marked). y.segment.media_sequence) e, f.0)
below end (x ∷ before) m f (inr h) = omega (arith, below x.segment.media_sequence before m f.1 h, f.0)

old_agree : (last playlist : Playlist) (history : List Marked) → Standing last history → MayFollow playlist last → IsSoundPlaylist playlist
    → AllByRecursion (Agrees last.segments) history → AllByRecursion (Agrees playlist.segments) history
old_agree last playlist history s k r a =
    all_from (Agrees playlist.segments) history (λ m h.
    all_from (λ (t : Segment). m.segment.media_sequence ≡ t.media_sequence → kept_parts m.segment ≡ kept_parts t) playlist.segments (λ t inside e.
    let low = (within (first_number playlist.segments) playlist.segments t r.numbers inside).0 in
    let high = below (end_number last.segments) history m s.falls h in
    let u = has (first_number last.segments) t.media_sequence last.segments s.read.numbers (omega (arith, low, k.not_back)) (omega (arith, high, e)) in
    let there : kept_parts m.segment ≡ kept_parts u.one =
    from_all (λ (v : Segment). m.segment.media_sequence ≡ v.media_sequence → kept_parts m.segment ≡ kept_parts v) last.segments u.one (from_all (Agrees last.segments) history m a h) u.inside (e ∙ sym u.is) in
    let here : kept_parts u.one ≡ kept_parts t =
    from_all (λ (v : Segment). u.one.media_sequence ≡ v.media_sequence → kept_parts u.one ≡ kept_parts v) playlist.segments t (from_all (AgreesWith playlist.segments) last.segments u.one k.same u.inside) inside u.is in
    there ∙ here))

show_agree : (all : List Segment) (m : Moment) (history : List Marked) (segments : List Segment) → AllByRecursion (Agrees all) history → AllByRecursion (AgreesWith all) segments
    → AllByRecursion (Agrees all) (show_all m history segments)
show_agree all m history [] h k = h
show_agree all m history (s ∷ later) h k = show_agree all m (next_shown m history s later ∷ history) later (k.0, h) k.1

filter_step : (P : Segment → Type 0) (x : Segment) (xs : List Segment) (b : Bool) → P x → AllByRecursion P xs → AllByRecursion P (cond b (x ∷ xs) xs)
filter_step P x xs true p h = (p, h)
filter_step P x xs false p h = h

all_filter : (P : Segment → Type 0) (test : Segment → Bool) (xs : List Segment) → AllByRecursion P xs → AllByRecursion P (filter test xs)
all_filter P test [] h = tt
all_filter P test (x ∷ xs) h = filter_step P x (filter test xs) (test x) h.0 (all_filter P test xs h.1)

-- ---- after every list of events

unfoldable pub ListedOf : List Accepted → List Marked → Type 0
ListedOf [] history = Unit {0}
ListedOf (r ∷ before) history = AllByRecursion (Agrees r.playlist.segments) history

refresh_agrees : (m : Moment) (accepted : List Accepted) (history : List Marked) (start : ℕ) (playlist : Playlist) → WindowOf accepted history start → ListedOf accepted history
    → IsSoundPlaylist playlist → succession_fault (last_playlist accepted) playlist ≡ None → AllByRecursion (Agrees playlist.segments) (history_after m history playlist)
unfolding WindowOf ListedOf
refresh_agrees m [] history start playlist w l r f = grind (arith, show_agree, all_filter, own)
refresh_agrees m (a ∷ before) history start playlist w l r f = grind (arith, show_agree, old_agree, no_fault_succeeds, all_filter, own)

abbrev Lists : Told → Type 0
Lists p = ListedOf p.accepted p.history

refusal_lists : (tolerance : ℕ) (p : Told) (playlist : Playlist) → Holds p → Lists p → IsSoundPlaylist playlist → (o : Option RefreshFault) → refusal tolerance p playlist ≡ o
    → Lists (cond (is_none o) (after_refresh tolerance p playlist) p)
unfolding ListedOf
refusal_lists tolerance p playlist h l r o e = grind (arith, refresh_agrees, first_none)

event_lists : (tolerance : ℕ) (p : Told) (event : Event) → Holds p → Lists p → IsSoundEvent event → Lists (happens tolerance p event)
event_lists tolerance p (decided ds) h l g = l
event_lists tolerance p (refreshed playlist) h l g = refusal_lists tolerance p playlist h l g (refusal tolerance p playlist) refl

pub lists : (tolerance : ℕ) (events : List Event) → AllByRecursion IsSoundEvent events → Lists (told tolerance events)
unfolding ListedOf
lists tolerance [] g = tt
lists tolerance (event ∷ before) g = event_lists tolerance (told tolerance before) event (holds tolerance before g.1) (lists tolerance before g.1) g.0

-- ---- each is shown, and no more is, number for number

less : (y : Segment) (ys xs : List Segment) → AllByRecursion (AgreesWith (y ∷ ys)) xs → AllByRecursion (AgreesWith ys) xs
less y ys [] h = tt
less y ys (x ∷ xs) h = (h.0.1, less y ys xs h.1)

-- segments of the same numbers that agree are the same
same_parts : (n : ℕ) (xs ys : List Segment) → RiseFrom n xs → RiseFrom n ys → length xs ≡ length ys → AllByRecursion (AgreesWith ys) xs → map kept_parts xs ≡ map kept_parts ys
same_parts n [] [] r q e h = refl
same_parts n [] (y ∷ ys) r q e h = absurd (omega (arith, e))
same_parts n (x ∷ xs) [] r q e h = absurd (omega (arith, e))
same_parts n (x ∷ xs) (y ∷ ys) r q e h = grind (arith, same_parts (n + 1) xs ys r.1 q.1 (omega (arith, e)) (less y ys xs h.1))

-- the segments of a history from a number on, turned round, before others
record Turned (first end : ℕ) (history after : List Marked) : Type 0 where
  rise : RiseFrom first (map origin_segment (reverse_aux (shown_from first history) after))
  size : length (map origin_segment (reverse_aux (shown_from first history) after)) + first ≡ end + length after

length_map : (xs : List Marked) → length (map origin_segment xs) ≡ length xs
length_map [] = refl
length_map (x ∷ xs) = omega (arith, length_map xs)

turn_step : (first : ℕ) (x : Marked) (before after : List Marked) → RiseFrom (x.segment.media_sequence + 1) (map origin_segment after) → first ≤ x.segment.media_sequence + 1
    → (first ≤ x.segment.media_sequence → Turned first x.segment.media_sequence before (x ∷ after)) → (b : Bool) → nat_le first x.segment.media_sequence ≡ b
    → Turned first (x.segment.media_sequence + 1) (x ∷ before) after
turn_step first x before after r h rec b e = grind (arith, leb-true, leb-false, length_map)

turn : (first end : ℕ) (history after : List Marked) → FallFrom end history → RiseFrom end (map origin_segment after) → first ≤ end → end ≤ first + length history → Turned first end history after
turn first end [] after f r h k =
    let same : first ≡ end = omega (arith, h, k) in
    record { rise = subst (λ n. RiseFrom n (map origin_segment after)) (sym same) r; size = omega (arith, same, length_map after) }
turn first end (x ∷ before) after f r h k =
    subst (λ n. Turned first n (x ∷ before) after) f.0
    (turn_step first x before after (subst (λ n. RiseFrom n (map origin_segment after)) (sym f.0) r) (omega (arith, f.0, h))
    (λ less. turn first x.segment.media_sequence before (x ∷ after) f.1 (refl, subst (λ n. RiseFrom n (map origin_segment after)) (sym f.0) r) less (omega (arith, f.0, k)))
    (nat_le first x.segment.media_sequence) refl)

from_agree : (segments : List Segment) (first : ℕ) (history : List Marked) → AllByRecursion (Agrees segments) history → AllByRecursion (Agrees segments) (shown_from first history)
from_agree segments first [] a = tt
from_agree segments first (x ∷ before) a = grind (arith, from_agree segments first before a.1)

turn_agree : (segments : List Segment) (history after : List Marked) → AllByRecursion (Agrees segments) history → AllByRecursion (AgreesWith segments) (map origin_segment after)
    → AllByRecursion (AgreesWith segments) (map origin_segment (reverse_aux history after))
turn_agree segments [] after a h = h
turn_agree segments (x ∷ before) after a h = turn_agree segments before (x ∷ after) a.1 (a.0, h)

pub listed_parts : (last : Playlist) (history : List Marked) → Standing last history → AllByRecursion (Agrees last.segments) history
    → map kept_parts (listed (shown_from (first_number last.segments) history)) ≡ map kept_parts last.segments
listed_parts last history s a = grind (arith, turn, same_parts, turn_agree, from_agree)

parts_after : (accepted : List Accepted) (history : List Marked) (start : ℕ) (last : Playlist) → last_playlist accepted ≡ Some last → WindowOf accepted history start → ListedOf accepted history
    → map kept_parts (listed (shown_by (Some last) history)) ≡ map kept_parts last.segments
unfolding WindowOf ListedOf
parts_after accepted history start last e w l = grind (arith, listed_parts)

pub shown_are_listed : ShownAreListed
shown_are_listed tolerance events last now h =
    let t = told tolerance events in
    parts_after t.accepted t.history t.start last h.accepted (holds tolerance events h.sound).standing (lists tolerance events h.sound)
