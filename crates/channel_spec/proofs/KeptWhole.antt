-- A refresh of what is kept is one of the whole history.
use Rattle.std.proofs.Common.{◌≡◌, ℕ, ◌-◌, ◌<◌, ◌≤◌, Bool, true, false, cond, not, List, [], ◌∷◌, ◌++◌, map, length, reverse, refl, ap, sym, ◌∙◌, subst, append_assoc, length-append, arith, ◌+◌, min}
use Rattle.std.proofs.lemmas.Bool.{lt-leb, eqb-true, eqb-false}
use Rattle.std.proofs.lemmas.List.{append-nil, take_all, append_cancel_right}
use mathlib.Core.List.{reverse_aux}
use Rattle.std.specs.Prelude.{Option, Some, None, is_none, option_map, nat_le, filter, max, ◌==◌}
use Rattle.std.specs.List.{list_all, list_any}
use Rattle.playlist_model.specs.declared.DateRange.{DateRange}
use Rattle.playlist_model.specs.declared.Playlist.{Playlist}
use Rattle.channel_spec.specs.declared.heading.Heading.{Heading}
use Rattle.playlist_model.specs.LookBack.{or_earlier}
use Rattle.pod_store.specs.Marks.{Marked, newest_mark}
use Rattle.stitcher.specs.Stitched.{Piece, Numbers, Item, numbers_at, can_be_numbered, stitched, numbered, first_numbers, newest_place, from_place}
use Rattle.pod_store.specs.Store.{Store, is_one_of, kept_in_use}
use Rattle.channel_spec.specs.declared.fault.RefreshFault.TheVariants.{NumberRange}
use Rattle.break_finder.specs.Known.{Accepted, known, carry}
use Rattle.break_finder.specs.Breaks.{Break}
use Rattle.channel_spec.specs.Marking.{mark_id, last_entered, is_new, history_after}
use Rattle.channel_spec.specs.Successor.{owed_heading_of, first_number, end_number, has_init_sections, fault_if}
use Rattle.channel_spec.specs.Live.{Told, told, refusal, succession_fault, acceptance, moment, after_refresh, breaks_in_use, item_segment, states_instant, owed_for, window_after, last_playlist, written_date_ranges, item_place, gone_before, rest_over, rest_id, ids_of_option, marks_from, in_use_with, date_ranges_left, start_after}
use Rattle.break_finder.specs.Laws.{CarriesKnown}
use Rattle.channel_spec.specs.LiveLaws.{Linked, GoesOn}
use Rattle.channel_spec.specs.Kept.{Kept, shown_from, head_numbers, kept_of, kept_acceptance, kept_moment, show_on, kept_list, kept_window, kept_breaks, kept_refusal, kept_after, kept_owed, kept_succession, listed, date_ranges_after, length_on, kept_length, stitched_on, kept_items, kept_rest, window_by}
use Rattle.channel_spec.specs.Inner.Kept.{kept_start}
use Rattle.channel_spec.specs.LastWindow.{last_items, ItemsGoOn}
use Rattle.channel_spec.proofs.Growth.{numbered_grows}
use Rattle.channel_spec.specs.KeptLaws.{KeptFollows}
use Rattle.channel_spec.proofs.Risen.{FallFrom}
use Rattle.channel_spec.proofs.Listed.{Agrees, ListedOf, listed_parts, lists}
use Rattle.channel_spec.proofs.SameFault.{same_fault, same_first}
use Rattle.playlist_model.specs.Same.{kept_parts}
use Rattle.std.specs.List.{AllByRecursion}
use Rattle.channel_spec.proofs.Fills.{IsStore}
use Rattle.channel_spec.proofs.EachWindow.{due_on, first_stays, same_start, plain_standing, start_inside, WindowStanding, WindowOf, holds}
use Rattle.channel_spec.proofs.LastNumbers.{newest_fits}
use Rattle.break_finder.proofs.Carried.{knowledge_is_carried}
use Rattle.channel_spec.proofs.MarkKnown.{marks_are_known}
use Rattle.channel_spec.proofs.Linked.{link_all, histories_are_linked}
use Rattle.channel_spec.proofs.ShownAlone.{rest_of, newest_after, window_after as window_beyond, numbered-onto, onto_alone, from_over, empty}
use Rattle.channel_spec.proofs.LiveState.{Standing, new_standing}
use Rattle.channel_spec.proofs.Passed.{passed}
use Rattle.channel_spec.proofs.KeptSteps.{entered_on, none_marked, marks_append, none_below, cut, show_after, show_first, shown_apart, newest_same, new_same, show_grows}
use Rattle.std.proofs.Math.Decide.{dec_lt}
use Rattle.stitcher.specs.Paced.{PodRest, run_length, due_with, due_stitched, due_list, rest_pieces}
use Rattle.channel_spec.proofs.Windows.{split_at}
use Rattle.channel_spec.specs.Sound.{IsSoundPlaylist}
use Rattle.channel_spec.proofs.DueCut.{length_of, due_capped, due_cut, length_first, length_behind}
use Rattle.channel_spec.proofs.Starts.{StartAt, StartOf, all_start, rest_with, rest_is, Below, below_start, none_before}

-- ---- the numbers of the first item

head_first : (n : Numbers) (p : Piece) (before : List Piece) (acc : List Item) → head_numbers (reverse_aux (numbered n (p ∷ before)) acc) ≡ n
head_first n p [] acc = refl
head_first n p (q ∷ before) acc = head_first n q before (record { piece = p; numbers = numbers_at n p (q ∷ before) } ∷ acc)

head_of_all : (n : Numbers) (pieces : List Piece) → 0 < length pieces → head_numbers (reverse (numbered n pieces)) ≡ n
head_of_all n [] h = absurd (omega (arith, h))
head_of_all n (p ∷ before) h = head_first n p before []

-- ---- the range of the numbers

heads : (first n : Numbers) (whole pieces : List Piece) (rest : List Item) → 0 < length pieces → numbered first whole ≡ numbered n pieces ++ rest
    → list_all can_be_numbered (numbered first whole) ≡ list_all can_be_numbered (numbered n pieces)
heads first n whole [] rest h e = absurd (omega (arith, h))
heads first n [] (p ∷ pieces) rest h e = absurd (cc)
heads first n (q ∷ whole) (p ∷ pieces) rest h e = grind (arith, newest_fits)

-- ---- what is owed

abbrev owed_by : Playlist → List Item → List DateRange → Playlist
owed_by p w date_ranges = record {
  version = max p.version 6;
  target_duration = p.target_duration;
  playlist_type = p.playlist_type;
  independent_segments = p.independent_segments;
  end_list = p.end_list;
  date_ranges = cond (list_any states_instant w) date_ranges [];
  segments = map item_segment w;
}

date_ranges_by : (p : Playlist) (w v : List Item) (ids other : List (List ℕ)) → w ≡ v → ids ≡ other
    → date_ranges_left (list_any states_instant w) ids p.date_ranges ≡ date_ranges_left (list_any states_instant v) other p.date_ranges
date_ranges_by p w v ids other e h = grind arith

owed_same : (p : Playlist) (w v : List Item) (ids other : List (List ℕ)) → w ≡ v → ids ≡ other
    → owed_by p w (filter (λ (r : DateRange). not (is_one_of ids r.id)) p.date_ranges) ≡ owed_by p v (filter (λ (r : DateRange). not (is_one_of other r.id)) p.date_ranges)
owed_same p w v ids other e h = grind arith

-- a list of the segments that are shown and of new ones, after which those that are gone stand
pub record Parts (first : ℕ) (list gone : List Marked) (history : List Marked) (entered : Option (List ℕ)) : Type 0 where
  pub is : history ≡ list ++ gone
  pub below : FallFrom first gone
  pub last : or_earlier (last_entered list) entered ≡ last_entered history

module _ (number first : ℕ) (list gone history : List Marked) (entered : Option (List ℕ)) (parts : Parts first list gone history entered) (on : first ≤ number) where
  marks_same : marks_from number list ≡ marks_from number history
  marks_same = sym (ap (marks_from number) parts.is ∙ marks_append number list gone (none_marked number first gone parts.below on))

  ids_same : (rest rest' : Option PodRest) → rest ≡ rest' → in_use_with number list (or_earlier (last_entered list) entered) rest ≡ in_use_with number history (last_entered history) rest'
  ids_same rest rest' e =
      ap (λ ids. ids ++ (ids_of_option (or_earlier (last_entered list) entered) ++ ids_of_option (rest_id rest))) marks_same
      ∙ (ap (λ o. marks_from number history ++ (ids_of_option o ++ ids_of_option (rest_id rest))) parts.last ∙ ap (λ o. marks_from number history ++ (ids_of_option (last_entered history) ++ ids_of_option (rest_id o))) e)

  shown_same : shown_from number list ≡ shown_from number history
  shown_same = sym (ap (shown_from number) parts.is ∙ shown_apart number list gone (none_below number first gone parts.below on))

or_nothing : (o : Option (List ℕ)) → or_earlier o None ≡ o
or_nothing None = refl
or_nothing (Some x) = refl

-- ---- the list above what stands below the window

pub stand_on : (whole : Bool) (more : List Marked) (s : Marked) (gone : List Marked) (start : ℕ) (rest : Option PodRest) (b : Below s gone start rest) → Linked (more ++ (s ∷ gone))
    → due_stitched whole (more ++ (s ∷ gone)) ≡ stitched_on whole (length_of (more ++ (s ∷ gone))) (more ++ (s ∷ [])) rest ++ b.below
stand_on whole more s gone start rest b l =
    let history = more ++ (s ∷ gone) in
    let here = due_with whole (length_of history) (more ++ (s ∷ [])) in
    sym (due_capped whole (run_length history) history l)
    ∙ (due_cut whole (length_of history) more s gone l
    ∙ (ap (λ xs. here ++ xs) b.is ∙ sym (append_assoc here (rest_pieces rest) b.below)))

-- ---- the rest, counted from another item

rest_shift : (base below start later place whole : ℕ) (list all : List Marked) → later ≡ start + below → whole ≡ place + base + below → newest_mark all ≡ newest_mark list
    → newest_place all ≡ newest_place list + base + below → rest_with base start place list ≡ rest_with 0 later whole all
rest_shift base below start later place whole list all e f g h = grind arith

-- the segments before a number above the oldest one that is kept
pub record Gone (number : ℕ) (more : List Marked) (s : Marked) (gone : List Marked) : Type 0 where
  pub part : List Marked
  pub whole : gone_before number (more ++ (s ∷ gone)) ≡ part ++ (s ∷ gone)
  pub alone : gone_before number (more ++ (s ∷ [])) ≡ part ++ (s ∷ [])
  pub linked : Linked (part ++ (s ∷ gone))

gone_parts : (number : ℕ) (more : List Marked) (s : Marked) (gone : List Marked) → s.segment.media_sequence < number → Linked (more ++ (s ∷ gone)) → Gone number more s gone
gone_parts number [] s gone h l =
    let no = lt-leb number s.segment.media_sequence h in
    record { part = []; whole = ap (λ b. cond b (gone_before number gone) (s ∷ gone)) no; alone = ap (λ b. cond b [] (s ∷ [])) no; linked = l }
gone_parts number (x ∷ more) s gone h l = step (nat_le number x.segment.media_sequence) refl (gone_parts number more s gone h l.1)
  where
    step : (b : Bool) → nat_le number x.segment.media_sequence ≡ b → Gone number more s gone → Gone number (x ∷ more) s gone
    step true e k = record { part = k.part; whole = rw e k.whole; alone = rw e k.alone; linked = k.linked }
    step false e k = record { part = x ∷ more; whole = rw e refl; alone = rw e refl; linked = l }

-- the rest that the next window begins with
rest_next : (number last end start from begun : ℕ) (more : List Marked) (s : Marked) (gone list history : List Marked) (there : Option PodRest) (b : Below s gone start there)
    → there ≡ rest_with 0 start (length (stitched (rest_of s gone))) gone → list ≡ more ++ (s ∷ []) → history ≡ more ++ (s ∷ gone) → Linked (more ++ (s ∷ gone)) → FallFrom end (more ++ (s ∷ gone)) → s.segment.media_sequence ≡ last → last ≤ number
    → begun ≡ from + start → item_place number history ≡ (item_place number list + length (rest_pieces there)) + start → (number ≡ last → begun ≡ start)
    → (t : Bool) → (number == last) ≡ t → cond t there (rest_over (length (rest_pieces there)) from number list) ≡ rest_over 0 begun number history
rest_next number last end start from begun more s gone list history there b is li hi l f at back starts places stays true e =
    let same : number ≡ last = eqb-true number last e in
    is
    ∙ sym (ap (rest_over 0 begun number) hi
    ∙ (ap (λ k. rest_over 0 k number (more ++ (s ∷ gone))) (stays same)
    ∙ (ap (λ k. rest_over 0 start k (more ++ (s ∷ gone))) (same ∙ sym at) ∙ rest_is end start more s gone f)))
rest_next number last end start from begun more s gone list history there b is li hi l f at back starts places stays false e =
    let above : s.segment.media_sequence < number = higher (dec_lt last number) in
    let g = gone_parts number more s gone above l in
    let base = length (rest_pieces there) in
    let behind = newest_after g.part s gone g.linked in
    ap (rest_with base from (item_place number list)) (ap (gone_before number) li ∙ g.alone)
    ∙ (rest_shift base start from begun (item_place number list) (item_place number history) (g.part ++ (s ∷ [])) (g.part ++ (s ∷ gone)) starts places (newest_same g.part s gone)
    (omega (arith, behind, ap length b.is, length-append (rest_pieces there) b.below, b.size))
    ∙ sym (ap (rest_with 0 begun (item_place number history)) (ap (gone_before number) hi ∙ g.whole)))
  where
    higher : Dec (last < number) → s.segment.media_sequence < number
    higher (yes h) = omega (arith, at, h)
    higher (no h) = absurd (eqb-false number last e (omega (arith, back, h)))

-- ---- one refresh

pub record FollowsFrom (k : Kept) (tolerance : ℕ) (p : Playlist) (t : Told) : Type 0 where
  pub succeeds_is : kept_succession k p ≡ succession_fault (last_playlist t.accepted) p
  pub refused : kept_refusal tolerance k p ≡ refusal tolerance t p
  pub fresh_is : filter (is_new k.shown) p.segments ≡ filter (is_new t.history) p.segments
  pub kept_is : refusal tolerance t p ≡ None → kept_after tolerance k p ≡ kept_of (after_refresh tolerance t p)
  pub window_is : refusal tolerance t p ≡ None → kept_window tolerance k p ≡ window_after (after_refresh tolerance t p) p
  pub date_ranges_is : refusal tolerance t p ≡ None → date_ranges_after tolerance k p ≡ written_date_ranges (after_refresh tolerance t p) p
  pub owed_is : refusal tolerance t p ≡ None → kept_owed tolerance k p ≡ owed_for (after_refresh tolerance t p) p
  pub last_is : reverse (last_items k) ≡ window_by (last_playlist t.accepted) t.start t.history
  pub items_on : succession_fault (last_playlist t.accepted) p ≡ None → GoesOn (last_items k) (kept_items tolerance k p)

pub kept_ext : (store store' : Store) (breaks breaks' : List Break) (last : Option Heading) (shown shown' : List Marked) (entered entered' : Option (List ℕ)) (numbers numbers' : Numbers) (n n' : ℕ) (rest rest' : Option PodRest)
    → store ≡ store' → breaks ≡ breaks' → shown ≡ shown' → entered ≡ entered' → numbers ≡ numbers' → n ≡ n' → rest ≡ rest'
    → ◌≡◌ {A = Kept} (record { store = store; breaks = breaks; last = last; shown = shown; entered = entered; numbers = numbers; so_far = n; rest = rest })
    (record { store = store'; breaks = breaks'; last = last; shown = shown'; entered = entered'; numbers = numbers'; so_far = n'; rest = rest' })
kept_ext store store' breaks breaks' last shown shown' entered entered' numbers numbers' n n' rest rest' a b c d e f g = cc

or_none : {A : Type 0} (a b : Option A) → or_earlier a b ≡ None → a ≡ None
or_none None b e = refl
or_none (Some x) b e = absurd (cc)

or_same : {A : Type 0} (o x y : Option A) → (o ≡ None → x ≡ y) → or_earlier o x ≡ or_earlier o y
or_same None x y h = h refl
or_same (Some z) x y h = refl

-- ---- the first refresh

follow_first : (tolerance : ℕ) (p : Playlist) (store : Store) (start : ℕ)
    → FollowsFrom (kept_of (record { accepted = []; history = []; store = store; start = start })) tolerance p (record { accepted = []; history = []; store = store; start = start })
follow_first tolerance p store start =
    let t : Told = record { accepted = []; history = []; store = store; start = start } in
    let kept = kept_of t in
    let m = moment tolerance t p in
    let number = first_number p.segments in
    let list = kept_list tolerance kept p in
    let history = history_after m [] p in
    let new = filter (is_new []) p.segments in
    let breaks : carry (kept_acceptance kept p) [] ≡ known (acceptance t p ∷ []) = sym (knowledge_is_carried (acceptance t p) [] tt) in
    let same : history ≡ list =
    show_first m new
    ∙ ap (λ (b : List Break). show_on (record { tolerance = tolerance; target_duration = p.target_duration; with_init_sections = has_init_sections p.segments; breaks = b; store = store }) [] None new) (sym breaks) in
    let lengths : length_of history ≡ kept_length tolerance kept p =
    length_first m new
    ∙ ap (λ (b : List Break). length_on (record { tolerance = tolerance; target_duration = p.target_duration; with_init_sections = has_init_sections p.segments; breaks = b; store = store }) [] None 0 new) (sym breaks) in
    let links : Linked history = link_all m [] new tt in
    let pieces : stitched_on p.end_list (kept_length tolerance kept p) list None ≡ due_stitched p.end_list history =
    append-nil (due_with p.end_list (kept_length tolerance kept p) list)
    ∙ (ap (λ n. due_with p.end_list n list) (sym lengths) ∙ (ap (due_with p.end_list (length_of history)) (sym same) ∙ due_capped p.end_list (run_length history) history links)) in
    let items : kept_items tolerance kept p ≡ due_list p.end_list history =
    ap (λ h. numbered (first_numbers h) (stitched_on p.end_list (kept_length tolerance kept p) list None)) (sym same) ∙ ap (numbered (first_numbers history)) pieces in
    let windows : kept_window tolerance kept p ≡ window_after (after_refresh tolerance t p) p =
    ap (λ xs. reverse (from_place (item_place number list) xs)) items ∙ ap (λ h. reverse (from_place (item_place number h) (due_list p.end_list history))) (sym same) in
    let parts : Parts 0 list [] history None = record { is = same ∙ sym (append-nil list); below = tt; last = or_nothing (last_entered list) ∙ ap last_entered (sym same) } in
    let none : rest_over 0 (item_place number history) number history ≡ None = none_before (item_place number history) (item_place number history) (gone_before number history) refl in
    let ids : kept_breaks tolerance kept p ≡ breaks_in_use (item_place number history) number history = ids_same number 0 list [] history None parts (omega arith) _ _ (sym none) in
    record {
      succeeds_is = refl;
      refused = ap (λ xs. fault_if (not (list_all can_be_numbered xs)) NumberRange) items;
      fresh_is = refl;
      kept_is = λ e. kept_ext _ _ _ _ (Some (owed_heading_of p)) _ _ _ _ _ _ _ _ _ _ (ap (λ is. kept_in_use is store) ids) breaks (shown_same number 0 list [] history None parts (omega arith)) parts.last (ap head_numbers windows) (sym lengths) (sym none);
      window_is = λ e. windows;
      date_ranges_is = λ e. date_ranges_by p (kept_window tolerance kept p) (window_after (after_refresh tolerance t p) p) (kept_breaks tolerance kept p) (breaks_in_use (item_place number history) number history) windows ids;
      owed_is = λ e. owed_same p (kept_window tolerance kept p) (window_after (after_refresh tolerance t p) p) (kept_breaks tolerance kept p) (breaks_in_use (item_place number history) number history) windows ids;
      last_is = refl;
      items_on = λ e. (kept_items tolerance kept p, sym (append-nil (kept_items tolerance kept p)));
    }

-- ---- each later one

next_start : (b : Bool) (start place most place' most' : ℕ) → place ≡ place' + start → most ≡ most' + start → cond b start (min place most) ≡ cond b 0 (min place' most') + start
next_start true start place most place' most' e f = omega arith
next_start false start place most place' most' e f = omega (arith, e, f)

module _ (tolerance : ℕ) (p : Playlist) (a : Accepted) (earlier : List Accepted) (newer : List Marked) (s : Marked) (gone : List Marked) (store : Store) (start : ℕ) where
  abbrev first : Numbers
  first = first_numbers (newer ++ (s ∷ gone))

  abbrev t : Told
  t = record { accepted = a ∷ earlier; history = newer ++ (s ∷ gone); store = store; start = start }

  abbrev there : Option PodRest
  there = rest_with 0 start (length (stitched (rest_of s gone))) gone

  -- the pieces that stood from the window's first item on
  abbrev stood : List Piece
  stood = stitched_on a.playlist.end_list (length_of (newer ++ (s ∷ gone))) (newer ++ (s ∷ [])) there

  abbrev kept : Numbers → Kept
  kept n = record {
    store = store;
    breaks = known (a ∷ earlier);
    last = Some (owed_heading_of a.playlist);
    shown = newer ++ (s ∷ []);
    entered = last_entered (newer ++ (s ∷ gone));
    numbers = n;
    so_far = length_of (newer ++ (s ∷ gone));
    rest = there;
  }

  module _ (b : Below s gone start there) (linked : Linked (newer ++ (s ∷ gone))) (front : List Piece) (q : Piece) (stood_is : stood ≡ front ++ (q ∷ [])) where
    abbrev n : Numbers
    n = numbers_at first q b.below

    old_is : due_stitched a.playlist.end_list (newer ++ (s ∷ gone)) ≡ stood ++ b.below
    old_is = stand_on a.playlist.end_list newer s gone start there b linked

    -- a list of pieces that goes on what stood, as it is numbered
    numbered_on : (more pieces whole : List Piece) → pieces ≡ more ++ stood → whole ≡ pieces ++ b.below → numbered first whole ≡ numbered n pieces ++ numbered first b.below
    numbered_on more pieces whole e f =
        let front' = more ++ front in
        let is : pieces ≡ front' ++ (q ∷ []) = e ∙ (ap (λ xs. more ++ xs) stood_is ∙ sym (append_assoc more front (q ∷ []))) in
        ap (numbered first) (f ∙ ap (λ xs. xs ++ b.below) is)
        ∙ (numbered-onto first (front' ++ (q ∷ [])) b.below
        ∙ (ap (λ xs. xs ++ numbered first b.below) (onto_alone first front' q b.below)
        ∙ ap (λ (xs : List Piece). numbered n xs ++ numbered first b.below) (sym is)))

    window_on : (more pieces whole : List Piece) (place : ℕ) → pieces ≡ more ++ stood → whole ≡ pieces ++ b.below
        → reverse (from_place (place + length b.below) (numbered first whole)) ≡ reverse (from_place place (numbered n pieces))
    window_on more pieces whole place e f =
        let front' = more ++ front in
        let is : pieces ≡ front' ++ (q ∷ []) = e ∙ (ap (λ xs. more ++ xs) stood_is ∙ sym (append_assoc more front (q ∷ []))) in
        ap (λ (xs : List Piece). reverse (from_place (place + length b.below) (numbered first xs))) (f ∙ ap (λ xs. xs ++ b.below) is)
        ∙ (ap (λ xs. reverse xs) (from_over first place front' q b.below) ∙ ap (λ (xs : List Piece). reverse (from_place place (numbered n xs))) (sym is))

    last_written : reverse (numbered n stood) ≡ window_after t a.playlist
    last_written =
        let items = numbered n stood in
        sym (ap (λ k. reverse (from_place k (due_list a.playlist.end_list (newer ++ (s ∷ gone))))) (omega (arith, b.size))
        ∙ (window_on [] stood (due_stitched a.playlist.end_list (newer ++ (s ∷ gone))) 0 refl old_is
        ∙ ap (λ xs. reverse xs) (take_all (length items - 0) items (omega arith))))

    kept_there : (end : ℕ) → s.segment.media_sequence ≡ first_number a.playlist.segments → shown_from (first_number a.playlist.segments) (newer ++ (s ∷ gone)) ≡ newer ++ (s ∷ [])
        → FallFrom end (newer ++ (s ∷ gone)) → kept_of t ≡ kept n
    kept_there end at shown falls =
        let items = numbered n stood in
        let some : 0 < length stood = omega (arith, ap length stood_is, length-append front (q ∷ [])) in
        let numbers : head_numbers (window_after t a.playlist) ≡ n =
        ap (λ k. head_numbers (reverse (from_place k (due_list a.playlist.end_list (newer ++ (s ∷ gone)))))) (omega (arith, b.size))
        ∙ (ap head_numbers (window_on [] stood (due_stitched a.playlist.end_list (newer ++ (s ∷ gone))) 0 refl old_is)
        ∙ (ap (λ xs. head_numbers (reverse xs)) (take_all (length items - 0) items (omega arith))
        ∙ head_of_all n stood some)) in
        let rest : rest_over 0 start (first_number a.playlist.segments) (newer ++ (s ∷ gone)) ≡ there =
        ap (λ k. rest_over 0 start k (newer ++ (s ∷ gone))) (sym at) ∙ rest_is end start newer s gone falls in
        kept_ext _ _ _ _ (Some (owed_heading_of a.playlist)) _ _ _ _ _ _ _ _ _ _ refl refl shown refl numbers refl rest

    follow_later : s.segment.media_sequence ≡ first_number a.playlist.segments → map kept_parts (listed (newer ++ (s ∷ []))) ≡ map kept_parts a.playlist.segments → FallFrom (first_number a.playlist.segments) gone → Standing a.playlist (newer ++ (s ∷ gone)) → IsSoundPlaylist p → CarriesKnown (a ∷ earlier)
        → (succession_fault (Some a.playlist) p ≡ None → Standing p (history_after (moment tolerance t p) (newer ++ (s ∷ gone)) p)) → FollowsFrom (kept n) tolerance p t
    follow_later at same_parts below standing read carries following =
        let m = moment tolerance t p in
        let k = kept n in
        let number = first_number p.segments in
        let shown = newer ++ (s ∷ []) in
        let whole = newer ++ (s ∷ gone) in
        let list = kept_list tolerance k p in
        let history = history_after m whole p in
        let entered = last_entered whole in
        let old = due_stitched a.playlist.end_list whole in
        let new = due_stitched p.end_list history in
        let acceptances : kept_acceptance k p ≡ acceptance t p = ap (λ o. record { playlist = p; carried = option_map mark_id o }) (sym (newest_same newer s gone)) in
        let breaks : carry (kept_acceptance k p) (known (a ∷ earlier)) ≡ known (acceptance t p ∷ a ∷ earlier) =
        ap (λ x. carry x (known (a ∷ earlier))) acceptances ∙ sym (knowledge_is_carried (acceptance t p) (a ∷ earlier) carries) in
        let same : history ≡ list ++ gone =
        show_after m newer s gone (filter (is_new whole) p.segments)
        ∙ (ap (λ ss. show_on m shown entered ss ++ gone) (new_same newer s gone p.segments)
        ∙ ap (λ (b : List Break). show_on (record { tolerance = tolerance; target_duration = p.target_duration; with_init_sections = has_init_sections p.segments; breaks = b; store = store }) shown entered (filter (is_new shown) p.segments) ++ gone) (sym breaks)) in
        let g = show_grows (kept_moment tolerance k p) shown entered (filter (is_new shown) p.segments) in
        let more = g.0 ++ newer in
        let list_is : list ≡ more ++ (s ∷ []) = g.1 ∙ sym (append_assoc g.0 newer (s ∷ [])) in
        let history_is : history ≡ more ++ (s ∷ gone) = same ∙ (ap (λ l. l ++ gone) list_is ∙ append_assoc more (s ∷ []) gone) in
        let links : Linked (more ++ (s ∷ gone)) = subst Linked history_is (link_all m whole (filter (is_new whole) p.segments) linked) in
        let lengths : length_of history ≡ kept_length tolerance k p =
        length_behind m newer s gone (filter (is_new whole) p.segments) linked
        ∙ (ap (λ ss. length_on m shown entered (length_of whole) ss) (new_same newer s gone p.segments)
        ∙ ap (λ (b : List Break). length_on (record { tolerance = tolerance; target_duration = p.target_duration; with_init_sections = has_init_sections p.segments; breaks = b; store = store }) shown entered (length_of whole) (filter (is_new shown) p.segments)) (sym breaks)) in
        let stands = stitched_on p.end_list (kept_length tolerance k p) list there in
        let new_is : new ≡ stands ++ b.below =
        ap (due_stitched p.end_list) history_is
        ∙ (stand_on p.end_list more s gone start there b links
        ∙ (ap (λ n. stitched_on p.end_list n (more ++ (s ∷ [])) there ++ b.below) (ap length_of (sym history_is) ∙ lengths)
        ∙ ap (λ l. stitched_on p.end_list (kept_length tolerance k p) l there ++ b.below) (sym list_is))) in
        let last : or_earlier (last_entered list) entered ≡ last_entered history =
        ap (λ l. or_earlier (last_entered l) entered) g.1
        ∙ (ap (λ h. or_earlier (last_entered (g.0 ++ shown)) (last_entered h)) (sym (append_assoc newer (s ∷ []) gone))
        ∙ (entered_on g.0 shown gone ∙ ap (λ l. last_entered (l ++ gone)) (sym g.1) ∙ ap last_entered (sym same))) in
        let parts : Parts (first_number a.playlist.segments) list gone history entered = record { is = same; below = below; last = last } in
        let firsts : first_numbers history ≡ first = first_stays m a.playlist p whole standing in
        let fault = succession_fault (Some a.playlist) p in
        let oldest = first_number (listed shown) in
        let oldest_is : oldest ≡ first_number a.playlist.segments = same_first (listed shown) a.playlist.segments same_parts in
        let faults : kept_succession k p ≡ fault = same_fault (owed_heading_of a.playlist) (listed shown) a.playlist.segments p same_parts in
        let grow : fault ≡ None → GoesOn old new = λ e. due_on m a.playlist p whole standing (passed a.playlist p e) read in
        let goes : (e : fault ≡ None) → stands ≡ (grow e).0 ++ stood = λ e.
        append_cancel_right stands ((grow e).0 ++ stood) b.below (sym new_is ∙ ((grow e).1 ∙ (ap (λ xs. (grow e).0 ++ xs) old_is ∙ sym (append_assoc (grow e).0 stood b.below)))) in
        let some : fault ≡ None → 0 < length stands = λ e.
        omega (arith, ap length (goes e), length-append (grow e).0 stood, ap length stood_is, length-append front (q ∷ [])) in
        let items : fault ≡ None → due_list p.end_list history ≡ numbered n stands ++ numbered first b.below = λ e.
        ap (λ f. numbered f new) firsts ∙ numbered_on (grow e).0 stands new (goes e) new_is in
        let range : fault ≡ None → list_all can_be_numbered (numbered n stands) ≡ list_all can_be_numbered (due_list p.end_list history) = λ e.
        sym (heads (first_numbers history) n new stands (numbered first b.below) (some e) (items e)) in
        let back : fault ≡ None → first_number a.playlist.segments ≤ number = λ e. (passed a.playlist p e).not_back in
        let from = kept_start tolerance k p in
        let begun = start_after (Some a.playlist) start whole p history in
        let places : fault ≡ None → item_place number history ≡ (item_place number list + length (rest_pieces there)) + start = λ e.
        let behind = window_beyond more s gone number links (omega (arith, at, back e)) in
        omega (arith, ap (item_place number) history_is, behind, ap (item_place number) list_is, ap length b.is, length-append (rest_pieces there) b.below, b.size) in
        let starts : fault ≡ None → begun ≡ from + start = λ e.
        ap (λ (c : ℕ). cond (number == c) start (min (item_place number history) (length old))) (sym oldest_is)
        ∙ next_start (number == oldest) start (item_place number history) (length old) (item_place number list + length (rest_pieces there)) (length stood)
        (places e) (omega (arith, ap length old_is, length-append stood b.below, b.size)) in
        let windows : fault ≡ None → kept_window tolerance k p ≡ reverse (from_place begun (due_list p.end_list history)) = λ e.
        sym (ap (λ k. reverse (from_place k (due_list p.end_list history))) (omega (arith, starts e, b.size))
        ∙ (ap (λ f. reverse (from_place (from + length b.below) (numbered f new))) firsts ∙ window_on (grow e).0 stands new from (goes e) new_is)) in
        let rests : fault ≡ None → kept_rest tolerance k p ≡ rest_over 0 begun number history = λ e.
        rest_next number oldest (end_number p.segments) start from begun more s gone list history there b refl list_is history_is links
        (subst (λ h. FallFrom (end_number p.segments) h) history_is (following e).falls) (at ∙ sym oldest_is) (omega (arith, oldest_is, back e)) (starts e) (places e)
        (λ c. same_start number (first_number a.playlist.segments) start (min (item_place number history) (length old)) (c ∙ oldest_is) (number == first_number a.playlist.segments) refl)
        (number == oldest) refl in
        let ids : fault ≡ None → kept_breaks tolerance k p ≡ breaks_in_use begun number history = λ e.
        ids_same number (first_number a.playlist.segments) list gone history entered parts (back e) _ _ (rests e) in
        record {
          succeeds_is = faults;
          refused = ap (λ o. or_earlier o (fault_if (not (list_all can_be_numbered (kept_items tolerance k p))) NumberRange)) faults ∙ or_same fault _ _ (λ e. ap (λ b. fault_if (not b) NumberRange) (range e));
          fresh_is = sym (new_same newer s gone p.segments);
          kept_is = λ r. let e = or_none fault _ r in kept_ext _ _ _ _ (Some (owed_heading_of p)) _ _ _ _ _ _ _ _ _ _ (ap (λ is. kept_in_use is store) (ids e)) breaks
              (shown_same number (first_number a.playlist.segments) list gone history entered parts (back e)) last (ap head_numbers (windows e)) (sym lengths) (rests e);
          window_is = λ r. windows (or_none fault _ r);
          date_ranges_is = λ r. let e = or_none fault _ r in date_ranges_by p (kept_window tolerance k p) (reverse (from_place begun (due_list p.end_list history))) (kept_breaks tolerance k p) (breaks_in_use begun number history) (windows e) (ids e);
          owed_is = λ r. let e = or_none fault _ r in owed_same p (kept_window tolerance k p) (reverse (from_place begun (due_list p.end_list history))) (kept_breaks tolerance k p) (breaks_in_use begun number history) (windows e) (ids e);
          last_is = last_written;
          items_on = λ e. subst (λ xs. GoesOn (numbered n stood) (numbered n xs)) (sym (goes e)) (numbered_grows n (grow e).0 stood);
        }

-- ---- all events

pub linked_behind : (xs ys : List Marked) → Linked (xs ++ ys) → Linked ys
linked_behind [] ys l = l
linked_behind (x ∷ xs) ys l = linked_behind xs ys l.1

-- a list that isn't empty ends in a piece
record Ends (pieces : List Piece) : Type 0 where
  front : List Piece
  q : Piece
  is : pieces ≡ front ++ (q ∷ [])

ends : (pieces : List Piece) → 0 < length pieces → Ends pieces
ends pieces h =
    let k = split_at 0 pieces h in
    record { front = k.front; q = k.here; is = k.is ∙ ap (λ xs. k.front ++ (k.here ∷ xs)) (empty k.after k.at) }

later : (tolerance : ℕ) (p : Playlist) (a : Accepted) (earlier : List Accepted) (newer : List Marked) (s : Marked) (gone : List Marked) (store : Store) (start : ℕ)
    → Standing a.playlist (newer ++ (s ∷ gone)) → AllByRecursion (Agrees a.playlist.segments) (newer ++ (s ∷ gone)) → StartAt s.segment.media_sequence (newer ++ (s ∷ gone)) start → IsSoundPlaylist p
    → (succession_fault (Some a.playlist) p ≡ None → Standing p (history_after (moment tolerance (record { accepted = a ∷ earlier; history = newer ++ (s ∷ gone); store = store; start = start }) p) (newer ++ (s ∷ gone)) p))
    → Linked (newer ++ (s ∷ gone)) → CarriesKnown (a ∷ earlier) → start < length (due_stitched a.playlist.end_list (newer ++ (s ∷ gone)))
    → s.segment.media_sequence ≡ first_number a.playlist.segments → shown_from (first_number a.playlist.segments) (newer ++ (s ∷ gone)) ≡ newer ++ (s ∷ []) → FallFrom (first_number a.playlist.segments) gone
    → FollowsFrom (kept_of (record { accepted = a ∷ earlier; history = newer ++ (s ∷ gone); store = store; start = start })) tolerance p
    (record { accepted = a ∷ earlier; history = newer ++ (s ∷ gone); store = store; start = start })
later tolerance p a earlier newer s gone store start standing agrees at read following linked carries some number shown rest =
    let whole = newer ++ (s ∷ gone) in
    let end = end_number a.playlist.segments in
    let t : Told = record { accepted = a ∷ earlier; history = whole; store = store; start = start } in
    let there = rest_with 0 start (length (stitched (rest_of s gone))) gone in
    let b = below_start end start newer s gone standing.falls (linked_behind newer (s ∷ gone) linked).1 at in
    let stood = stitched_on a.playlist.end_list (length_of whole) (newer ++ (s ∷ [])) there in
    let old = stand_on a.playlist.end_list newer s gone start there b linked in
    let k = ends stood (omega (arith, some, ap length old, length-append stood b.below, b.size)) in
    subst (λ x. FollowsFrom x tolerance p t) (sym (kept_there tolerance p a earlier newer s gone store start b linked k.front k.q k.is end number shown standing.falls))
    (follow_later tolerance p a earlier newer s gone store start b linked k.front k.q k.is number
    (ap (λ h. map kept_parts (listed h)) (sym shown) ∙ listed_parts a.playlist whole standing agrees) rest standing read carries following)

from_history : (tolerance : ℕ) (p : Playlist) (a : Accepted) (earlier : List Accepted) (history : List Marked) (store : Store) (start : ℕ)
    → WindowStanding a.playlist history start → AllByRecursion (Agrees a.playlist.segments) history → StartAt (first_number a.playlist.segments) history start → IsSoundPlaylist p
    → (succession_fault (Some a.playlist) p ≡ None → Standing p (history_after (moment tolerance (record { accepted = a ∷ earlier; history = history; store = store; start = start }) p) history p))
    → Linked history → CarriesKnown (a ∷ earlier)
    → FollowsFrom (kept_of (record { accepted = a ∷ earlier; history = history; store = store; start = start })) tolerance p
    (record { accepted = a ∷ earlier; history = history; store = store; start = start })
from_history tolerance p a earlier history store start st agrees at read following linked carries =
    let first = first_number a.playlist.segments in
    let k = cut first (end_number a.playlist.segments) history st.standing.falls (omega (arith, st.standing.read.some)) (omega (arith, st.standing.long)) in
    let told_of : List Marked → Told = λ h. record { accepted = a ∷ earlier; history = h; store = store; start = start } in
    subst (λ h. FollowsFrom (kept_of (told_of h)) tolerance p (told_of h)) (sym k.is)
    (later tolerance p a earlier k.newer k.s k.gone store start (subst (λ h. Standing a.playlist h) k.is st.standing) (subst (λ h. AllByRecursion (Agrees a.playlist.segments) h) k.is agrees)
    (subst (λ n. StartAt n (k.newer ++ (k.s ∷ k.gone)) start) (sym k.media_sequence) (subst (λ h. StartAt first h start) k.is at)) read
    (subst (λ h. succession_fault (Some a.playlist) p ≡ None → Standing p (history_after (moment tolerance (told_of h) p) h p)) k.is following)
    (subst Linked k.is linked) carries (subst (λ h. start < length (due_stitched a.playlist.end_list h)) k.is (start_inside a.playlist history start st a.playlist.end_list))
    k.media_sequence (ap (shown_from first) (sym k.is) ∙ k.shown) k.rest)

pub each : (tolerance : ℕ) (p : Playlist) (accepted : List Accepted) (history : List Marked) (store : Store) (start : ℕ) → WindowOf accepted history start → ListedOf accepted history → StartOf accepted history start → IsStore store → IsSoundPlaylist p → Linked history → CarriesKnown accepted
    → FollowsFrom (kept_of (record { accepted = accepted; history = history; store = store; start = start })) tolerance p (record { accepted = accepted; history = history; store = store; start = start })
unfolding WindowOf StartOf ListedOf
each tolerance p [] history store start st agrees at pods read linked carries =
    let told_of : List Marked → Told = λ h. record { accepted = []; history = h; store = store; start = start } in
    subst (λ h. FollowsFrom (kept_of (told_of h)) tolerance p (told_of h)) (sym st) (follow_first tolerance p store start)
each tolerance p (a ∷ earlier) history store start st agrees at pods read linked carries =
    let t : Told = record { accepted = a ∷ earlier; history = history; store = store; start = start } in
    from_history tolerance p a earlier history store start st agrees at read
    (λ e. new_standing (moment tolerance t p) (a ∷ earlier) history p (plain_standing (a ∷ earlier) history start st) read refl pods e) linked carries

pub kept_follows : KeptFollows
kept_follows tolerance p before g =
    let t = told tolerance before in
    let h = holds tolerance before g.1 in
    let f = each tolerance p t.accepted t.history t.store t.start h.standing (lists tolerance before g.1) (all_start tolerance before g.1) h.store g.0 (histories_are_linked tolerance before) (marks_are_known tolerance before) in
    let now : refusal tolerance t p ≡ None → cond (is_none (refusal tolerance t p)) (after_refresh tolerance t p) t ≡ after_refresh tolerance t p = λ e. ap (λ o. cond (is_none o) (after_refresh tolerance t p) t) e in
    record {
      succeeds = f.succeeds_is;
      refused = f.refused;
      fresh = f.fresh_is;
      kept = λ e. f.kept_is e ∙ ap kept_of (sym (now e));
      window = λ e. f.window_is e ∙ ap (λ u. window_after u p) (sym (now e));
      date_ranges = λ e. f.date_ranges_is e ∙ ap (λ u. written_date_ranges u p) (sym (now e));
      owed = λ e. f.owed_is e ∙ ap (λ u. owed_for u p) (sym (now e));
    }

pub items_go_on : ItemsGoOn
items_go_on tolerance p before g =
    let t = told tolerance before in
    let h = holds tolerance before g.1 in
    let f = each tolerance p t.accepted t.history t.store t.start h.standing (lists tolerance before g.1) (all_start tolerance before g.1) h.store g.0 (histories_are_linked tolerance before) (marks_are_known tolerance before) in
    record { last = f.last_is; on = f.items_on }
