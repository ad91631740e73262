-- A first refresh without decisions is owed as it was read.
use Rattle.std.proofs.Common.{◌≡◌, ℕ, ◌+◌, ◌-◌, ◌^◌, Bool, true, false, cond, not, ◌&&◌, ◌||◌, List, [], ◌∷◌, ◌++◌, map, filter, reverse, refl, ap, sym, ◌∙◌, subst, append_assoc, arith}
use Rattle.std.proofs.lemmas.Bool.{and_parts, and_from, eqb-true}
use Rattle.std.proofs.lemmas.List.{append-nil, take_all}
use Rattle.std.specs.Prelude.{ℤ, Option, Some, None, find, nat_lt}
use Rattle.std.specs.List.{AllByRecursion, list_all, list_any}
use Rattle.playlist_model.specs.Segments.{Segment}
use Rattle.playlist_model.specs.declared.DateRange.{DateRange}
use Rattle.playlist_model.specs.declared.Playlist.{Playlist}
use Rattle.playlist_model.specs.Instants.{begins_at, ends_at, instants_after}
use Rattle.playlist_model.specs.Numbering.{Numbers, segment_numbers, follows, all_follow, numbers_rise}
use Rattle.pod_store.specs.Marks.{Mark, Marked, newest_mark, continues, are_one}
use Rattle.stitcher.specs.Stitched.{Item, can_be_numbered, kept_piece, stitched, numbered, numbers_at, next_stitched_numbers, steps_between, numbers_from, first_numbers, newest_place, up_to, from_place}
use Rattle.stitcher.specs.Paced.{due_stitched, due_list}
use Rattle.pod_store.specs.Store.{nothing_decided}
use Rattle.break_finder.specs.Breaks.{Break}
use Rattle.break_finder.specs.Entering.{enters_break}
use Rattle.break_finder.specs.Entering as entering
use Rattle.break_finder.specs.Known.{is_this_break}
use Rattle.channel_spec.specs.Marking.{Moment, entered, last_entered, newest_end, next_shown, show_all}
use Rattle.channel_spec.specs.Successor.{first_number, end_number}
use Rattle.channel_spec.specs.Live.{refreshed, Told, told, nothing_told, last_playlist, item_place, after_refresh, moment, item_segment, whole_stitched_list, window_after}
use Rattle.channel_spec.specs.LiveLaws.{Linked}
use Rattle.channel_spec.specs.Sound.{IsSoundPlaylist}
use Rattle.channel_spec.specs.BreakLaws.{is_of_pod}
use Rattle.channel_spec.specs.OwedLaws.{states_time, is_played, with_times, NothingDecidedNothingChanged}
use Rattle.channel_spec.proofs.Reversed.{list_all-reverse}
use Rattle.channel_spec.proofs.Windows.{reverse-cons}
use Rattle.channel_spec.proofs.Growth.{history_grows, first_numbers_stay}
use Rattle.channel_spec.proofs.Risen.{FallFrom}
use Rattle.channel_spec.proofs.Runs.{nothing_continues}
use Rattle.channel_spec.proofs.Fills.{IsPodOrNone, HavePods, IsStore}
use Rattle.channel_spec.proofs.LiveState.{first_standing, all_new}
use Rattle.channel_spec.proofs.Linked.{link_all}
use Rattle.channel_spec.proofs.DueCut.{due_newest}
use Rattle.channel_spec.proofs.Starts.{up_bottom}
use Rattle.channel_spec.proofs.OwedLaws.{owed_is, same_left, date_ranges_are_the_origins}
use Rattle.channel_spec.proofs.WrittenPods.{any_reverse}

empty_store : IsStore nothing_decided
unfolding HavePods IsPodOrNone
empty_store = record { entries = tt; fallback = tt }

-- ---- nothing is marked

none_enters : (m : entering.EntryLimits) (breaks : List Break) (instant : ℤ) → find (enters_break m nothing_decided instant) breaks ≡ None
none_enters m [] instant = refl
none_enters m (b ∷ breaks) instant = none_enters m breaks instant

none_entered : (m : Moment) (instant : Option ℤ) (last : Option (List ℕ)) → m.store ≡ nothing_decided → entered m instant last ≡ None
none_entered m instant last e = grind arith

unmarked_next : (m : Moment) (before : List Marked) (s : Segment) (later : List Segment) → m.store ≡ nothing_decided → newest_mark before ≡ None → (next_shown m before s later).mark ≡ None
unmarked_next m before s later e n = grind arith

abbrev Unmarked : List Marked → Type 0
Unmarked history = AllByRecursion (λ (s : Marked). s.mark ≡ None) history

newest_none : (history : List Marked) → Unmarked history → newest_mark history ≡ None
newest_none [] u = refl
newest_none (s ∷ before) u = u.0

unmarked_all : (m : Moment) (history : List Marked) (segments : List Segment) → m.store ≡ nothing_decided → Unmarked history → Unmarked (show_all m history segments)
unmarked_all m history [] e u = u
unmarked_all m history (s ∷ later) e u = unmarked_all m (next_shown m history s later ∷ history) later e (unmarked_next m history s later e (newest_none history u), u)

none_last : (history : List Marked) → Unmarked history → last_entered history ≡ None
none_last [] u = refl
none_last (s ∷ before) u = grind (arith, none_last before u.1)

runs_alone : (s : Marked) (before : List Marked) → s.mark ≡ None → continues s before ≡ false
runs_alone s before e = ap (λ o. are_one o (newest_mark before)) e

stitched_plain : (history : List Marked) → Unmarked history → stitched history ≡ map kept_piece history
stitched_plain [] u = refl
stitched_plain (s ∷ before) u = grind (arith, stitched_plain before u.1)

due_plain : (ended : Bool) (history : List Marked) → Linked history → Unmarked history → due_stitched ended history ≡ map kept_piece history
due_plain ended history l u = grind (arith, due_newest, runs_alone, stitched_plain)

-- ---- the numbers are the segments' own

same_numbers : (media discontinuity number own steps : ℕ) → number ≡ media + 1 → own ≡ discontinuity + steps
    → ◌≡◌ {A = Numbers} (record { media_sequence = media + 1; discontinuity_sequence = discontinuity + (own - discontinuity); discontinuities = own - discontinuity }) (record { media_sequence = number; discontinuity_sequence = own; discontinuities = steps })
same_numbers media discontinuity number own steps e f = grind arith

-- a segment that was read, as an item with its own numbers
abbrev pub read_item : Segment → Option ℤ → Item
read_item s instant = record { piece = kept_piece (record { segment = s; instant = instant; mark = None }); numbers = segment_numbers s }

-- segments that begin at these instants
abbrev pub read_items : List Segment → List (Option ℤ) → List Item
read_items [] instants = []
read_items (s ∷ later) [] = []
read_items (s ∷ later) (instant ∷ instants) = read_item s instant ∷ read_items later instants

abbrev item_with : Marked → Numbers → Item
item_with s n = record { piece = kept_piece s; numbers = n }

as_read : (s : Marked) (n : Numbers) → n ≡ segment_numbers s.segment → item_with s n ≡ read_item s.segment s.instant
as_read s n e = ap (item_with s) e

abbrev in_order : Numbers → List Marked → List Item
in_order first history = reverse (numbered first (map kept_piece history))

in_order-cons : (first : Numbers) (s : Marked) (before : List Marked) → numbers_at first (kept_piece s) (map kept_piece before) ≡ segment_numbers s.segment
    → in_order first (s ∷ before) ≡ in_order first before ++ (read_item s.segment s.instant ∷ [])
in_order-cons first s before e =
    let item : Item = record { piece = kept_piece s; numbers = numbers_at first (kept_piece s) (map kept_piece before) } in
    reverse-cons item (numbered first (map kept_piece before)) ∙ ap (λ x. in_order first before ++ (x ∷ [])) (as_read s (numbers_at first (kept_piece s) (map kept_piece before)) e)

-- the segments that come after these
in_order_on : (m : Moment) (first : Numbers) (x : Marked) (rest : List Marked) (segments : List Segment) → numbers_at first (kept_piece x) (map kept_piece rest) ≡ segment_numbers x.segment
    → all_follow segment_numbers x.segment segments ≡ true
    → in_order first (show_all m (x ∷ rest) segments) ≡ in_order first (x ∷ rest) ++ read_items segments (instants_after (newest_end (x ∷ rest)) segments)
in_order_on m first x rest [] e f = sym (append-nil (in_order first (x ∷ rest)))
in_order_on m first x rest (s ∷ later) e f =
    let before = x ∷ rest in
    let here = next_shown m before s later in
    let a = and_parts (follows (segment_numbers x.segment) (segment_numbers s)) (all_follow segment_numbers s later) f in
    let b = and_parts _ _ a.0 in
    let number : s.media_sequence ≡ x.segment.media_sequence + 1 = eqb-true s.media_sequence (x.segment.media_sequence + 1) b.0 in
    let own : s.discontinuity_sequence ≡ x.segment.discontinuity_sequence + s.discontinuities = eqb-true s.discontinuity_sequence (x.segment.discontinuity_sequence + s.discontinuities) b.1 in
    let numbers : numbers_at first (kept_piece here) (map kept_piece before) ≡ segment_numbers s =
    ap (λ n. next_stitched_numbers n (steps_between (kept_piece x) (kept_piece here))) e ∙ same_numbers x.segment.media_sequence x.segment.discontinuity_sequence s.media_sequence s.discontinuity_sequence s.discontinuities number own in
    in_order_on m first here before later numbers a.1
    ∙ (ap (λ items. items ++ read_items later (instants_after (newest_end (here ∷ before)) later)) (in_order-cons first here before numbers)
    ∙ append_assoc (in_order first before) (read_item s here.instant ∷ []) (read_items later (instants_after (newest_end (here ∷ before)) later)))

-- as segments they state their instants
times_of : (segments : List Segment) (ended : Option ℤ) → map item_segment (read_items segments (instants_after ended segments)) ≡ with_times segments (instants_after ended segments)
times_of [] ended = refl
times_of (s ∷ later) ended =
    let begun = begins_at ended s later in
    ap (λ ss. item_segment (read_item s begun) ∷ ss) (times_of later (ends_at begun s.duration))

-- ---- a first refresh

abbrev here_of : Moment → Segment → List Segment → Marked
here_of m s later = next_shown m [] s later

first_in_order : (m : Moment) (s : Segment) (later : List Segment) → m.store ≡ nothing_decided → numbers_rise segment_numbers (s ∷ later) ≡ true
    → in_order (first_numbers (show_all m (here_of m s later ∷ []) later)) (show_all m (here_of m s later ∷ []) later) ≡ read_items (s ∷ later) (instants_after None (s ∷ later))
first_in_order m s later e r =
    let here = here_of m s later in
    let g = history_grows m (here ∷ []) later in
    let n = first_numbers (show_all m (here ∷ []) later) in
    let first : n ≡ segment_numbers s = ap first_numbers g.1 ∙ (first_numbers_stay g.0 here [] ∙ ap (numbers_from s) (unmarked_next m [] s later e refl)) in
    in_order_on m n here [] later first (and_parts _ _ r).1 ∙ ap (λ items. items ++ read_items later (instants_after (newest_end (here ∷ [])) later)) (in_order-cons n here [] first)

place_first : (m : Moment) (s : Segment) (later : List Segment) (end : ℕ) → FallFrom end (show_all m (here_of m s later ∷ []) later) → item_place s.media_sequence (show_all m (here_of m s later ∷ []) later) ≡ 0
place_first m s later end f =
    let here = here_of m s later in
    let g = history_grows m (here ∷ []) later in
    ap (λ h. newest_place (up_to s.media_sequence h)) g.1 ∙ (ap newest_place (up_bottom end g.0 here [] (subst (λ h. FallFrom end h) g.1 f)) ∙ ap (λ b. cond b 0 0) (nothing_continues here))

whole_list : (first : Numbers) (ended : Bool) (history : List Marked) (place : ℕ) → place ≡ 0 → Linked history → Unmarked history
    → reverse (from_place place (numbered first (due_stitched ended history))) ≡ reverse (numbered first (map kept_piece history))
whole_list first ended history place e l u = grind (arith, reverse, take_all, due_plain)

module _ (tolerance : ℕ) (p : Playlist) (s : Segment) (later : List Segment) (sound : IsSoundPlaylist p) (segments : p.segments ≡ s ∷ later) where
  abbrev m : Moment
  m = moment tolerance nothing_told p

  abbrev hist : List Marked
  hist = show_all m (here_of m s later ∷ []) later

  abbrev pub then : Told
  then = after_refresh tolerance nothing_told p

  history_is : then.history ≡ hist
  history_is = ap (show_all m []) (all_new p.segments ∙ segments)

  unmarked : Unmarked hist
  unmarked = unmarked_all m (here_of m s later ∷ []) later refl (unmarked_next m [] s later refl refl, tt)

  linked : Linked hist
  linked = link_all m [] (s ∷ later) tt

  falls : FallFrom (end_number p.segments) hist
  falls = subst (λ h. FallFrom (end_number p.segments) h) history_is (first_standing m p sound refl empty_store).falls

  window_is : window_after then p ≡ reverse (numbered (first_numbers hist) (map kept_piece hist))
  window_is =
      ap (λ h. reverse (from_place (item_place (first_number p.segments) h) (due_list p.end_list h))) history_is
      ∙ whole_list (first_numbers hist) p.end_list hist (item_place (first_number p.segments) hist)
      (ap (λ ss. item_place (first_number ss) hist) segments ∙ place_first m s later (end_number p.segments) falls) linked unmarked

  pub items_are : numbers_rise segment_numbers p.segments ≡ true → window_after then p ≡ read_items p.segments (instants_after None p.segments)
  items_are r =
      window_is
      ∙ (first_in_order m s later refl (sym (ap (numbers_rise segment_numbers) segments) ∙ r) ∙ sym (ap (λ ss. read_items ss (instants_after None ss)) segments))

  segments_are : numbers_rise segment_numbers p.segments ≡ true → map item_segment (window_after then p) ≡ with_times p.segments (instants_after None p.segments)
  segments_are r = ap (map item_segment) (items_are r) ∙ times_of p.segments None

  none_of_pod : (id : List ℕ) (first : Numbers) (history : List Marked) → list_any (is_of_pod id) (numbered first (map kept_piece history)) ≡ false
  none_of_pod id first [] = refl
  none_of_pod id first (x ∷ history) = none_of_pod id first history

  none_played : (id : List ℕ) → is_played then p id ≡ false
  none_played id =
      ap (λ items. list_any (is_of_pod id) items || is_this_break id (last_entered then.history)) window_is
      ∙ (ap (λ b. b || is_this_break id (last_entered then.history)) (any_reverse (is_of_pod id) (numbered (first_numbers hist) (map kept_piece hist)) ∙ none_of_pod id (first_numbers hist) hist)
      ∙ ap (is_this_break id) (ap last_entered history_is ∙ none_last hist unmarked))

all_stay : (date_ranges : List DateRange) → filter (λ (r : DateRange). true) date_ranges ≡ date_ranges
all_stay [] = refl
all_stay (r ∷ date_ranges) = ap (λ rs. r ∷ rs) (all_stay date_ranges)

none_stay : (date_ranges : List DateRange) → filter (λ (r : DateRange). false) date_ranges ≡ []
none_stay [] = refl
none_stay (r ∷ date_ranges) = none_stay date_ranges

stay_by : (b : Bool) (date_ranges : List DateRange) (f : DateRange → Bool) → ((r : DateRange) → f r ≡ false) → filter (λ (r : DateRange). b && not (f r)) date_ranges ≡ cond b date_ranges []
stay_by b date_ranges f h = same_left date_ranges (λ (r : DateRange). b && not (f r)) (λ (r : DateRange). b && true) (λ r. ap (λ x. b && not x) (h r)) ∙ by b
  where
    by : (b : Bool) → filter (λ (r : DateRange). b && true) date_ranges ≡ cond b date_ranges []
    by true = all_stay date_ranges
    by false = none_stay date_ranges

told_first : (tolerance : ℕ) (p : Playlist) → last_playlist (told tolerance (refreshed p ∷ [])).accepted ≡ Some p → told tolerance (refreshed p ∷ []) ≡ after_refresh tolerance nothing_told p
told_first tolerance p e = grind arith

pub nothing_decided_nothing_changed : NothingDecidedNothingChanged
nothing_decided_nothing_changed tolerance p now h r = by p.segments refl
  where
    by : (segments : List Segment) → p.segments ≡ segments
        → (now.segments ≡ with_times p.segments (instants_after None p.segments)) × (now.date_ranges ≡ cond (list_any states_time now.segments) p.date_ranges [])
    by [] e = let no : false ≡ true = sym (ap (numbers_rise segment_numbers) e) ∙ r in absurd (cc)
    by (s ∷ later) e =
        let owed = owed_is tolerance (refreshed p ∷ []) p now h in
        let same = told_first tolerance p h.accepted in
        let segments : now.segments ≡ with_times p.segments (instants_after None p.segments) =
        ap (λ (q : Playlist). q.segments) (sym owed) ∙ (ap (λ u. map item_segment (window_after u p)) same ∙ segments_are tolerance p s later h.sound.0 e r) in (
          segments,
          date_ranges_are_the_origins tolerance (refreshed p ∷ []) p now h
              ∙ stay_by (list_any states_time now.segments) p.date_ranges (λ (d : DateRange). is_played (told tolerance (refreshed p ∷ [])) p d.id)
              (λ d. ap (λ u. is_played u p d.id) same ∙ none_played tolerance p s later h.sound.0 e d.id),
        )
