-- What is owed, in the words of a playlist.
use Rattle.std.proofs.Common.{◌≡◌, ℕ, ◌-◌, ◌≤◌, Bool, true, false, cond, ◌&&◌, ◌||◌, List, [], ◌∷◌, ◌++◌, map, filter, take, length, reverse, refl, ap, sym, ◌∙◌, subst, length-append, arith}
use Rattle.std.proofs.lemmas.List.{take-map, append-nil}
use Rattle.std.proofs.lemmas.List.Elements.{filter-append}
use Rattle.std.proofs.Math.Seq.{take-append_seam}
use Rattle.std.specs.Prelude.{Option, Some, None, Ok, Err, is_some, is_none, nat_le}
use Rattle.std.specs.List.{AllByRecursion, list_any}
use Rattle.playlist_model.specs.declared.DateRange.{DateRange}
use Rattle.playlist_model.specs.declared.Playlist.{Playlist}
use Rattle.pod_store.specs.Marks.{Mark, Marked, continues}
use Rattle.stitcher.specs.Stitched.{Piece, Item, Numbers, is_kept, kept_piece, run_pieces, stitched, numbered, first_numbers, from_place}
use Rattle.stitcher.specs.Paced.{PodRest, older, run_length, newest_pieces, due_with, due_stitched, rest_pieces}
use Rattle.channel_spec.specs.declared.fault.RefreshFault.{RefreshFault}
use Rattle.pod_store.specs.Store.{Store, is_named, kept_in_use}
use Rattle.pod_store.specs.Outcome.{DecisionOutcome}
use Rattle.pod_store.specs.Store.{decided as after_decisions}
use Rattle.pod_store.specs.Laws.{Call, after_calls, are_distinct}
use Rattle.pod_store.specs.Laws as calls
use Rattle.pod_store.proofs.StoreLaws.{stays_small, pods_in_use}
use Rattle.break_finder.specs.Known.{Accepted}
use Rattle.channel_spec.specs.Marking.{history_after}
use Rattle.channel_spec.specs.Successor.{first_number, end_number}
use Rattle.channel_spec.specs.Live.{Event, decided, refreshed, Told, told, last_playlist, refusal, rest_by, rest_over, breaks_in_use, store_by_outcome, after_refresh, moment, start_after, item_segment, states_instant, window_from, owed_for}
use Rattle.channel_spec.specs.LiveLaws.{Linked}
use Rattle.channel_spec.specs.Kept.{shown_by, shown_from, capped, origin_segment}
use Rattle.channel_spec.specs.OwedLaws.{IsOwed, HeaderIsTheLast, states_time, DateRangesAreTheOrigins, piece_of, piece_segment, WindowIsStitched, is_unmarked, UnmarkedStandOnce, PlayAs, SegmentsPlayTheWindow, PodsAreKept, StoreStaysSmall}
use Rattle.channel_spec.proofs.Windows.{reverse-cons}
use Rattle.channel_spec.proofs.EachWindow.{WindowOf, WindowStanding, holds}
use Rattle.channel_spec.proofs.Linked.{histories_are_linked}
use Rattle.channel_spec.proofs.KeptSteps.{cut, newest_same}
use Rattle.channel_spec.proofs.ShownAlone.{rest_of, length-numbered}
use Rattle.channel_spec.proofs.DueCut.{length_of, due_newest, due_capped, linked_cut}
use Rattle.channel_spec.proofs.Starts.{StartAt, StartOf, all_start, rest_with, rest_is, below_start}
use Rattle.channel_spec.proofs.KeptWhole.{stand_on, linked_behind}
use Rattle.channel_spec.proofs.WrittenPods.{in_use_is_written, all_drop, ads_of, due_of}
use Rattle.channel_spec.proofs.Runs.{nothing_continues}

-- ---- what is owed is what was accepted last, with the window

pub owed_is : (tolerance : ℕ) (events : List Event) (last now : Playlist) → IsOwed tolerance events last now → owed_for (told tolerance events) last ≡ now
owed_is tolerance events last now h = grind arith

pub header_is_the_last : HeaderIsTheLast
header_is_the_last tolerance events last now h = grind arith

-- ---- date ranges

timed : (items : List Item) → list_any states_instant items ≡ list_any states_time (map item_segment items)
timed [] = refl
timed (item ∷ items) = ap (λ b. is_some item.piece.instant || b) (timed items)

none_left : (date_ranges : List DateRange) (test : DateRange → Bool) → [] ≡ filter (λ (r : DateRange). false && test r) date_ranges
none_left [] test = refl
none_left (r ∷ date_ranges) test = none_left date_ranges test

left_by : (b : Bool) (date_ranges : List DateRange) (test : DateRange → Bool) → cond b (filter test date_ranges) [] ≡ filter (λ (r : DateRange). b && test r) date_ranges
left_by true date_ranges test = refl
left_by false date_ranges test = none_left date_ranges test

pub same_left : (date_ranges : List DateRange) (f g : DateRange → Bool) → ((r : DateRange) → f r ≡ g r) → filter f date_ranges ≡ filter g date_ranges
same_left [] f g h = refl
same_left (r ∷ date_ranges) f g h = grind (arith, same_left date_ranges f g h)

pub date_ranges_are_the_origins : DateRangesAreTheOrigins
date_ranges_are_the_origins tolerance events last now h = grind (arith, owed_is, timed, left_by, same_left, in_use_is_written)

-- ---- the window

map-reverse : {A B : Type 0} (f : A → B) (xs : List A) → map f (reverse xs) ≡ reverse (map f xs)
map-reverse f [] = refl
map-reverse f (x ∷ xs) = ap (map f) (reverse-cons x xs) ∙ (map-after f (reverse xs) (x ∷ []) ∙ (ap (λ ys. ys ++ (f x ∷ [])) (map-reverse f xs) ∙ sym (reverse-cons (f x) (map f xs))))
  where
    map-after : {A B : Type 0} (f : A → B) (xs ys : List A) → map f (xs ++ ys) ≡ map f xs ++ map f ys
    map-after f [] ys = refl
    map-after f (x ∷ xs) ys = ap (λ zs. f x ∷ zs) (map-after f xs ys)

pieces_numbered : (first : Numbers) (pieces : List Piece) → map piece_of (numbered first pieces) ≡ pieces
pieces_numbered first [] = refl
pieces_numbered first (p ∷ pieces) = ap (λ ps. p ∷ ps) (pieces_numbered first pieces)

pieces_from : (first : Numbers) (stood below pieces : List Piece) (start : ℕ) → pieces ≡ stood ++ below → length below ≡ start → map piece_of (reverse (from_place start (numbered first pieces))) ≡ reverse stood
pieces_from first stood below pieces start e f =
    map-reverse piece_of (from_place start (numbered first pieces))
    ∙ ap reverse (sym (take-map piece_of (length (numbered first pieces) - start) (numbered first pieces))
    ∙ (ap (take (length (numbered first pieces) - start)) (pieces_numbered first pieces)
    ∙ (ap (λ k. take k pieces) (omega (arith, length-numbered first pieces, ap length e, length-append stood below, f)) ∙ (ap (take (length stood)) e ∙ take-append_seam stood below))))

-- the window's pieces, of the segments from the oldest one that is shown on
window_pieces : (p : Playlist) (newer : List Marked) (s : Marked) (gone : List Marked) (start : ℕ) → WindowStanding p (newer ++ (s ∷ gone)) start → StartAt s.segment.media_sequence (newer ++ (s ∷ gone)) start
    → Linked (newer ++ (s ∷ gone)) → s.segment.media_sequence ≡ first_number p.segments
    → map piece_of (window_from start (newer ++ (s ∷ gone)) p)
    ≡ reverse (due_with p.end_list (run_length (newer ++ (s ∷ gone))) (newer ++ (s ∷ [])) ++ rest_pieces (rest_by (Some p) start (newer ++ (s ∷ gone))))
window_pieces p newer s gone start w at linked number =
    let history = newer ++ (s ∷ gone) in
    let end = end_number p.segments in
    let falls = w.standing.falls in
    let there = rest_with 0 start (length (stitched (rest_of s gone))) gone in
    let b = below_start end start newer s gone falls (linked_behind newer (s ∷ gone) linked).1 at in
    let shown = newer ++ (s ∷ []) in
    let rest : rest_by (Some p) start history ≡ there = ap (λ n. rest_over 0 start n history) (sym number) ∙ rest_is end start newer s gone falls in
    let capped : due_with p.end_list (length_of history) shown ≡ due_with p.end_list (run_length history) shown =
    ap (λ o. due_with p.end_list (capped o (run_length history)) shown) (newest_same newer s gone) ∙ due_capped p.end_list (run_length history) shown (linked_cut newer s gone linked) in
    pieces_from (first_numbers history) (due_with p.end_list (length_of history) shown ++ rest_pieces there) b.below (due_stitched p.end_list history) start (stand_on p.end_list newer s gone start there b linked) b.size
    ∙ ap reverse (ap (λ ps. ps ++ rest_pieces there) capped ∙ ap (λ o. due_with p.end_list (run_length history) shown ++ rest_pieces o) (sym rest))

for_last : (accepted : List Accepted) (history : List Marked) (start : ℕ) (p : Playlist) → WindowOf accepted history start → StartOf accepted history start → Linked history → last_playlist accepted ≡ Some p
    → map piece_of (window_from start history p) ≡ reverse (due_with p.end_list (run_length history) (shown_by (Some p) history) ++ rest_pieces (rest_by (Some p) start history))
unfolding WindowOf StartOf
for_last [] history start p w at linked e = absurd (cc)
for_last (a ∷ earlier) history start p w at linked e =
    let same : a.playlist ≡ p = cc in
    subst (λ (q : Playlist). map piece_of (window_from start history q) ≡ reverse (due_with q.end_list (run_length history) (shown_by (Some q) history) ++ rest_pieces (rest_by (Some q) start history))) same (here a.playlist w at)
  where
    here : (q : Playlist) → WindowStanding q history start → StartAt (first_number q.segments) history start
        → map piece_of (window_from start history q) ≡ reverse (due_with q.end_list (run_length history) (shown_by (Some q) history) ++ rest_pieces (rest_by (Some q) start history))
    here q st begin =
        let first = first_number q.segments in
        let k = cut first (end_number q.segments) history st.standing.falls (omega (arith, st.standing.read.some)) (omega (arith, st.standing.long)) in
        let whole = window_pieces q k.newer k.s k.gone start (subst (λ h. WindowStanding q h start) k.is st)
        (subst (λ n. StartAt n (k.newer ++ (k.s ∷ k.gone)) start) (sym k.media_sequence) (subst (λ h. StartAt first h start) k.is begin)) (subst Linked k.is linked) k.media_sequence in
        subst (λ h. map piece_of (window_from start h q) ≡ reverse (due_with q.end_list (run_length h) (shown_from first history) ++ rest_pieces (rest_by (Some q) start h))) (sym k.is)
        (whole ∙ ap (λ l. reverse (due_with q.end_list (run_length (k.newer ++ (k.s ∷ k.gone))) l ++ rest_pieces (rest_by (Some q) start (k.newer ++ (k.s ∷ k.gone))))) (sym k.shown))

pub window_is_stitched : WindowIsStitched
window_is_stitched tolerance events last now h =
    let t = told tolerance events in
    for_last t.accepted t.history t.start last (holds tolerance events h.sound).standing (all_start tolerance events h.sound) (histories_are_linked tolerance events) h.accepted

-- ---- the origin's segments

filter-reverse : {A : Type 0} (test : A → Bool) (xs : List A) → filter test (reverse xs) ≡ reverse (filter test xs)
filter-reverse test [] = refl
filter-reverse test (x ∷ xs) = grind (arith, reverse-cons, filter-append, reverse, append-nil, filter-reverse test xs)

none_kept : (mark : Mark) (pieces : List Piece) → AllByRecursion (λ (p : Piece). p.mark ≡ Some mark) pieces → filter is_kept pieces ≡ []
none_kept mark [] h = refl
none_kept mark (p ∷ pieces) h = grind (arith, none_kept mark pieces h.1)

of_unmarked : Marked → Option Mark → List Piece
of_unmarked s None = kept_piece s ∷ []
of_unmarked s (Some f) = []

kept_newest : (whole : Bool) (n : ℕ) (s : Marked) (o : Option Mark) → filter is_kept (newest_pieces whole n s o) ≡ of_unmarked s o
unfolding of_unmarked
kept_newest whole n s o = grind (arith, filter-reverse, reverse, none_kept, ads_of, due_of)

kept_run : (s : Marked) (o : Option Mark) → filter is_kept (run_pieces s o) ≡ of_unmarked s o
unfolding of_unmarked
kept_run s o = grind (arith, filter-reverse, reverse, none_kept, ads_of)

kept_first : (s : Marked) (later : List Marked) (o : Option Mark) → of_unmarked s o ++ map kept_piece (filter is_unmarked later) ≡ map kept_piece (cond (is_none o) (s ∷ filter is_unmarked later) (filter is_unmarked later))
unfolding of_unmarked
kept_first s later None = refl
kept_first s later (Some f) = refl

-- a segment that goes on a run is marked
marked_on : (s : Marked) (before : List Marked) → continues s before ≡ true → is_unmarked s ≡ false
marked_on s before e = grind arith

kept_stitched : (history : List Marked) → filter is_kept (stitched history) ≡ map kept_piece (filter is_unmarked history)
kept_stitched [] = refl
kept_stitched (s ∷ before) = step (continues s before) refl (kept_stitched before)
  where
    step : (b : Bool) → continues s before ≡ b → filter is_kept (stitched before) ≡ map kept_piece (filter is_unmarked before)
        → filter is_kept (cond b [] (run_pieces s s.mark) ++ stitched before) ≡ map kept_piece (filter is_unmarked (s ∷ before))
    step true e rec = rec ∙ sym (ap (λ b. map kept_piece (cond b (s ∷ filter is_unmarked before) (filter is_unmarked before))) (marked_on s before e))
    step false e rec =
        filter-append is_kept (run_pieces s s.mark) (stitched before) ∙ (ap (λ ps. ps ++ filter is_kept (stitched before)) (kept_run s s.mark) ∙ (ap (λ ps. of_unmarked s s.mark ++ ps) rec ∙ kept_first s before s.mark))

-- of the newest run no segment but an unmarked one is kept
unmarked_older : (s : Marked) (before : List Marked) → Linked (s ∷ before) → filter is_unmarked (s ∷ before) ≡ cond (is_unmarked s) (s ∷ filter is_unmarked (older (s ∷ before))) (filter is_unmarked (older (s ∷ before)))
unmarked_older s [] l = grind arith
unmarked_older s (t ∷ before) l = grind (arith, unmarked_older t before l.1)

kept_due : (whole : Bool) (n : ℕ) (history : List Marked) → Linked history → filter is_kept (due_with whole n history) ≡ map kept_piece (filter is_unmarked history)
kept_due whole n history l = grind (arith, due_newest, filter-append, kept_newest, of_unmarked, kept_stitched, kept_first, unmarked_older)

kept_rest : (o : Option PodRest) → filter is_kept (rest_pieces o) ≡ []
kept_rest o = grind (arith, filter-reverse, reverse, none_kept, all_drop, ads_of)

shown_linked : (first : ℕ) (history : List Marked) → Linked history → Linked (shown_from first history)
shown_linked first [] l = tt
shown_linked first (s ∷ before) l = step (nat_le first s.segment.media_sequence) before l (shown_linked first before l.1)
  where
    step : (b : Bool) (before : List Marked) → Linked (s ∷ before) → Linked (shown_from first before) → Linked (cond b (s ∷ shown_from first before) [])
    step false before l rec = tt
    step true [] l rec = ((λ e. l.0 e), tt)
    step true (t ∷ before) l rec = inner (nat_le first t.segment.media_sequence) rec
      where
        inner : (b : Bool) → Linked (cond b (t ∷ shown_from first before) []) → Linked (s ∷ cond b (t ∷ shown_from first before) [])
        inner true k = ((λ e. l.0 e), k)
        inner false k = ((λ e. let no = nothing_continues s in absurd (cc)), k)

map-segments : (xs : List Marked) → map piece_segment (map kept_piece xs) ≡ map origin_segment xs
map-segments [] = refl
map-segments (x ∷ xs) = ap (λ ys. x.segment ∷ ys) (map-segments xs)

pub unmarked_stand_once : UnmarkedStandOnce
unmarked_stand_once tolerance events last now h =
    let t = told tolerance events in
    let shown = shown_by (Some last) t.history in
    let due = due_with last.end_list (run_length t.history) shown in
    let rest = rest_pieces (rest_by (Some last) t.start t.history) in
    let linked = shown_linked (first_number last.segments) t.history (histories_are_linked tolerance events) in
    let kept : filter is_kept (due ++ rest) ≡ map kept_piece (filter is_unmarked shown) =
    filter-append is_kept due rest ∙ (ap (λ ps. filter is_kept due ++ ps) (kept_rest (rest_by (Some last) t.start t.history)) ∙ (append-nil (filter is_kept due) ∙ kept_due last.end_list (run_length t.history) shown linked)) in
    ap (λ ps. map piece_segment (filter is_kept ps)) (window_is_stitched tolerance events last now h)
    ∙ (ap (map piece_segment) (filter-reverse is_kept (due ++ rest) ∙ (ap reverse kept ∙ sym (map-reverse kept_piece (filter is_unmarked shown))))
    ∙ (map-segments (reverse (filter is_unmarked shown)) ∙ ap (map origin_segment) (sym (filter-reverse is_unmarked shown))))

play_as : (items : List Item) → PlayAs items (map item_segment items)
play_as [] = refl
play_as (item ∷ items) = grind (arith, play_as items)

pub segments_play_the_window : SegmentsPlayTheWindow
segments_play_the_window tolerance events last now h = grind (arith, owed_is, play_as)

-- ---- the store

taken_is : (store : Store) (o : DecisionOutcome Store) → store_by_outcome store o ≡ calls.accepted store o
taken_is store (Ok new) = refl
taken_is store (Err fault) = refl

refresh_called : (tolerance : ℕ) (t : Told) (playlist : Playlist) (o : Option RefreshFault) (cs : List Call) → t.store ≡ after_calls cs
    → (more : List Call) × ((cond (is_none o) (after_refresh tolerance t playlist) t).store ≡ after_calls more)
refresh_called tolerance t playlist None cs e =
    let history = history_after (moment tolerance t playlist) t.history playlist in
    let start = start_after (last_playlist t.accepted) t.start t.history playlist history in
    let ids = breaks_in_use start (first_number playlist.segments) history in
    (calls.keep_in_use ids ∷ cs, ap (kept_in_use ids) e)
refresh_called tolerance t playlist (Some fault) cs e = (cs, e)

-- the store comes to what calls of it lead to
called : (tolerance : ℕ) (events : List Event) → (cs : List Call) × ((told tolerance events).store ≡ after_calls cs)
called tolerance [] = ([], refl)
called tolerance (decided ds ∷ before) =
    let k = called tolerance before in
    (calls.decide ds ∷ k.0, taken_is (told tolerance before).store (after_decisions (told tolerance before).store ds) ∙ ap (λ s. calls.accepted s (after_decisions s ds)) k.1)
called tolerance (refreshed playlist ∷ before) =
    let k = called tolerance before in
    refresh_called tolerance (told tolerance before) playlist (refusal tolerance (told tolerance before) playlist) k.0 k.1

pub store_stays_small : StoreStaysSmall
store_stays_small tolerance events =
    let k = called tolerance events in
    subst (λ (s : Store). (are_distinct s.entries ≡ true) × (length (filter is_named s.entries) ≤ 256)) (sym k.1) (stays_small k.0)

pub pods_are_kept : PodsAreKept
pods_are_kept tolerance playlist before id e = grind (arith, pods_in_use, store_stays_small)
