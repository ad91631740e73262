-- The stitched list only grows, and each written playlist succeeds the one written before it.
use Rattle.std.proofs.Common.{◌≡◌, inl, inr, ℕ, ◌+◌, ◌<◌, ◌≤◌, Bool, true, false, cond, List, [], ◌∷◌, ◌++◌, length, reverse, min, refl, ap, sym, ◌∙◌, subst, append_assoc, length-append, arith}
use Rattle.std.proofs.lemmas.List.{append-nil}
use Rattle.std.proofs.lemmas.Bool.{eqb-false}
use Rattle.std.specs.Prelude.{Option, Some, None, option_map, is_none, ◌==◌, filter, max}
use Rattle.std.specs.List.{AllByRecursion}
use Rattle.playlist_model.specs.declared.Playlist.{Playlist}
use Rattle.playlist_model.specs.LookBack.{or_earlier}
use Rattle.channel_spec.specs.declared.fault.RefreshFault.{RefreshFault}
use Rattle.break_finder.specs.Known.{Accepted}
use Rattle.pod_store.specs.Marks.{Mark, Marked, continues}
use Rattle.channel_spec.specs.Marking.{Moment, history_after, is_new, next_shown, show_all}
use Rattle.stitcher.specs.Stitched.{Piece, Numbers, is_kept, pod_pieces, run_pieces, stitched, newest_place, first_numbers, numbered, steps_between, up_to}
use Rattle.channel_spec.specs.Successor.{first_number, end_number, first_discontinuity, has_init_sections, MayFollow}
use Rattle.channel_spec.specs.Live.{Event, decided, refreshed, succession_fault, last_playlist, moment, whole_stitched_list, Told, start_after, item_place, breaks_in_use, after_refresh, refusal, happens, told, owed_for, owed, has_ended}
use Rattle.channel_spec.specs.Sound.{IsSoundPlaylist, IsSoundEvent}
use Rattle.stitcher.specs.Paced.{first_of_run, run_length, older, due, newest_pieces, due_stitched, due_list}
use Rattle.channel_spec.specs.LiveLaws.{GoesOn, OnlyGrows, EachSucceeds}
use Rattle.channel_spec.proofs.Numbered.{map-window}
use Rattle.channel_spec.proofs.Growth.{goes_nowhere, goes_on_through, numbered_grows, history_grows, first_numbers_stay}
use Rattle.channel_spec.proofs.Windows.{In, in_after, in_front, in_reverse, split_at, length-reverse, reverse-cons}
use Rattle.channel_spec.proofs.Fills.{IsGood, IsAlike, IsPodOrNone, HavePods, IsStore, HaveInitSections, stitched_have_init_sections}
use Rattle.channel_spec.proofs.Risen.{FallFrom, newest_discontinuity, past, all_past, are_past}
use Rattle.channel_spec.proofs.Places.{length_grows, place_grows, up_to_within, up_to_grows, up_to_some, Begins, stays, next, begins}
use Rattle.channel_spec.proofs.Succession.{cut, cut_is, Above, Follows, follows}
use Rattle.channel_spec.proofs.Passed.{Passed, passed}
use Rattle.channel_spec.proofs.LiveState.{Standing, StandingOf, new_standing, decide_pods, kept_pods}
use Rattle.channel_spec.proofs.Tops.{run_first}
use Rattle.channel_spec.proofs.Runs.{place_is}
use Rattle.channel_spec.proofs.Due.{list_rest, due_grows, due_prefix}
use Rattle.playlist_model.specs.Segments.{Segment}

-- ---- new segments

pub all_after : {A : Type 0} (P : A → Type 0) (xs ys : List A) → AllByRecursion P (xs ++ ys) → AllByRecursion P ys
all_after P [] ys h = h
all_after P (x ∷ xs) ys h = all_after P xs ys h.1

-- one segment at one place
same_place : {A : Type 0} (xs ys : List A) (a b : A) (zs : List A) → xs ++ (a ∷ zs) ≡ ys ++ (b ∷ zs) → a ≡ b
same_place [] [] a b zs e = cc
same_place [] (y ∷ ys) a b zs e = absurd (omega (arith, ap length e, length-append ys (b ∷ zs)))
same_place (x ∷ xs) [] a b zs e = absurd (omega (arith, ap length e, length-append xs (a ∷ zs)))
same_place (x ∷ xs) (y ∷ ys) a b zs e = let k : xs ++ (a ∷ zs) ≡ ys ++ (b ∷ zs) = cc in same_place xs ys a b zs k

pub first_shown : (m : Moment) (history : List Marked) (segments : List Segment) (later : List Marked) (x : Marked) → show_all m history segments ≡ later ++ (x ∷ history)
    → x.segment.discontinuity_sequence ≡ first_discontinuity segments
first_shown m history [] later x e = absurd (omega (arith, ap length e, length-append later (x ∷ history)))
first_shown m history (s ∷ segments) later x e =
    let here = next_shown m history s segments in
    let g = history_grows m (here ∷ history) segments in
    let same : x ≡ here = same_place later g.0 x here history (sym e ∙ g.1) in
    ap (λ (y : Marked). y.segment.discontinuity_sequence) same

-- the same window if the playlist had ended
pub no_new : (m : Moment) (last playlist : Playlist) (history : List Marked) → Standing last history → Passed last playlist → IsSoundPlaylist playlist
    → end_number playlist.segments ≡ end_number last.segments → history_after m history playlist ≡ history
no_new m last playlist [] s p r e = absurd (omega (arith, s.some))
no_new m last playlist (newest ∷ before) s p r e =
    let end : newest.segment.media_sequence + 1 ≡ end_number last.segments = s.falls.0 in
    let a = are_past newest.segment.media_sequence (first_number playlist.segments) playlist.segments (omega (arith, end, p.no_gap)) r.numbers in
    none (past newest.segment.media_sequence playlist.segments) (omega (arith, a.count (omega (arith, end, p.not_shrunk)), e, end))
  where
    none : (new : List Segment) → length new ≡ 0 → show_all m (newest ∷ before) new ≡ newest ∷ before
    none [] e = refl
    none (x ∷ new) e = absurd (omega (arith, e))

-- ---- the newest item has a piece

due_some : (length' : ℕ) (pieces : List Piece) → 0 < length pieces → 0 < length (due length' pieces)
due_some n [] h = absurd (omega (arith, h))
due_some n (p ∷ pieces) h = omega arith

pieces_some : (m : Bool) (n : ℕ) (s : Marked) (fill : Option Mark) → IsGood m fill → 0 < length (newest_pieces false n s fill)
unfolding IsGood
pieces_some m n s fill g = grind (arith, length-reverse, due_some)

first_good : (m : Bool) (s : Marked) (before : List Marked) → AllByRecursion (IsAlike m) (s ∷ before) → IsGood m (first_of_run s before).mark
first_good m s [] a = a.0.mark
first_good m s (t ∷ before) a = grind (arith, first_good m t before a.1)

-- a segment's item begins within what is shown
pub inside_due : (m ended : Bool) (more history : List Marked) → AllByRecursion (IsAlike m) history → 0 < length history → newest_place history < length (due_stitched ended (more ++ history))
inside_due m ended more [] a h = absurd (omega (arith, h))
inside_due m ended more (s ∷ before) a h =
    let f = first_of_run s before in
    let n = run_length (s ∷ before) in
    let some = pieces_some m n f f.mark (first_good m s before a) in
    let size = length-append (newest_pieces false n f f.mark) (stitched (older (s ∷ before))) in
    let longer = length_grows (due_stitched false (s ∷ before)) (due_stitched ended (more ++ (s ∷ before))) (due_grows ended more (s ∷ before)) in
    omega (arith, place_is (s ∷ before), some, size, longer)

pub within_due : (m ended : Bool) (number : ℕ) (history : List Marked) → AllByRecursion (IsAlike m) history → 0 < length (up_to number history) → item_place number history < length (due_stitched ended history)
within_due m ended number history a h =
    let g = up_to_within number history in
    let alike = all_after (IsAlike m) g.0 (up_to number history) (subst (λ h. AllByRecursion (IsAlike m) h) g.1 a) in
    subst (λ h. newest_place (up_to number history) < length (due_stitched ended h)) (sym g.1) (inside_due m ended g.0 (up_to number history) alike h)

-- ---- the piece above the old list

not_kept_near : (p q : Piece) → is_kept q ≡ false → steps_between p q ≤ 1000
not_kept_near p q e = grind arith

into_reverse : (q : Piece) (xs : List Piece) → In q xs → In q (reverse xs)
unfolding In
into_reverse q [] h = h
into_reverse q (x ∷ xs) (inl h) = subst (λ ys. In q ys) (sym (reverse-cons x xs)) (in_after q (reverse xs) (x ∷ []) (inl h))
into_reverse q (x ∷ xs) (inr h) = subst (λ ys. In q ys) (sym (reverse-cons x xs)) (in_front q (reverse xs) (x ∷ []) (into_reverse q xs h))

in_due : (n : ℕ) (s : Marked) (fill : Option Mark) (q : Piece) → In q (newest_pieces false n s fill) → In q (run_pieces s fill)
in_due n s None q h = h
in_due n s (Some f) q h =
    let k = due_prefix n (pod_pieces f) in
    into_reverse q (pod_pieces f) (subst (λ xs. In q xs) k.is (in_front q (due n (pod_pieces f)) k.rest (in_reverse q (due n (pod_pieces f)) h)))

pub fresh : (x : Marked) (history : List Marked) → continues x history ≡ false → due_stitched false (x ∷ history) ≡ newest_pieces false (x.segment.duration + 0) x x.mark ++ stitched history
fresh x [] e = rw e refl
fresh x (t ∷ before) e = rw e refl

empty : (xs : List Piece) → length xs ≡ 0 → xs ≡ []
empty [] e = refl
empty (x ∷ xs) e = absurd (omega (arith, e))

above_new : (m ended : Bool) (later : List Marked) (x : Marked) (history : List Marked) → IsAlike m x → AllByRecursion (IsAlike m) history → continues x history ≡ false
    → x.segment.discontinuity_sequence ≤ newest_discontinuity history + 1000 → Above (due_stitched ended (later ++ (x ∷ history))) (stitched history)
unfolding In
above_new m ended later x history k a e n =
    let run = newest_pieces false (x.segment.duration + 0) x x.mark in
    let s = split_at 0 run (pieces_some m (x.segment.duration + 0) x x.mark k.mark) in
    let g = due_grows ended later (x ∷ history) in
    let part : run ≡ s.front ++ (s.here ∷ []) = s.is ∙ ap (λ xs. s.front ++ (s.here ∷ xs)) (empty s.after s.at) in
    let within : In s.here run = subst (λ xs. In s.here xs) (sym s.is) (in_after s.here s.front (s.here ∷ s.after) (inl refl)) in
    record {
      front = g.0 ++ s.front;
      here = s.here;
      is = g.1 ∙ ap (λ xs. g.0 ++ xs) (fresh x history e ∙ ap (λ xs. xs ++ stitched history) part ∙ append_assoc s.front (s.here ∷ []) (stitched history)) ∙ sym (append_assoc g.0 s.front (s.here ∷ stitched history));
      near = run_first m x x.mark history s.here a (in_due (x.segment.duration + 0) x x.mark s.here within) n;
    }

rest_above : (new whole now : List Piece) → Above new whole → (rest : List Piece) → whole ≡ rest ++ now → ((q : Piece) → In q rest → is_kept q ≡ false) → Above new now
unfolding In
rest_above new whole now a [] e f = subst (λ xs. Above new xs) e a
rest_above new whole now a (p ∷ rest) e f =
    let s = split_at 0 (p ∷ rest) (omega arith) in
    let part : p ∷ rest ≡ s.front ++ (s.here ∷ []) = s.is ∙ ap (λ xs. s.front ++ (s.here ∷ xs)) (empty s.after s.at) in
    let list : whole ≡ s.front ++ (s.here ∷ now) = e ∙ ap (λ xs. xs ++ now) part ∙ append_assoc s.front (s.here ∷ []) now in
    record {
      front = a.front ++ (a.here ∷ s.front);
      here = s.here;
      is = a.is ∙ ap (λ xs. a.front ++ (a.here ∷ xs)) list ∙ sym (append_assoc a.front (a.here ∷ s.front) (s.here ∷ now));
      near = λ q before h. not_kept_near q s.here (f s.here (subst (λ xs. In s.here xs) (sym s.is) (in_after s.here s.front (s.here ∷ s.after) (inl refl))));
    }

above_due : (m ended over : Bool) (later : List Marked) (x : Marked) (history : List Marked) → IsAlike m x → AllByRecursion (IsAlike m) history → continues x history ≡ false
    → x.segment.discontinuity_sequence ≤ newest_discontinuity history + 1000 → Above (due_stitched over (later ++ (x ∷ history))) (due_stitched ended history)
above_due m ended over later x history k a e n =
    let r = list_rest ended history in
    rest_above (due_stitched over (later ++ (x ∷ history))) (stitched history) (due_stitched ended history) (above_new m over later x history k a e n) r.rest r.is r.of_pod

-- if the item of the next window begins at or past the end of the old list, a piece stands there that is near
item_above : (m ended over : Bool) (number : ℕ) (newest : Marked) (before more : List Marked) → AllByRecursion (IsAlike m) (more ++ (newest ∷ before))
    → ((later : List Marked) (x : Marked) → more ≡ later ++ (x ∷ []) → number ≡ newest.segment.media_sequence + 1 → x.segment.discontinuity_sequence ≤ newest_discontinuity (newest ∷ before) + 1000)
    → 0 < length (up_to number (more ++ (newest ∷ before))) → Begins number more newest before
    → length (due_stitched ended (newest ∷ before)) ≤ item_place number (more ++ (newest ∷ before)) → Above (due_stitched over (more ++ (newest ∷ before))) (due_stitched ended (newest ∷ before))
item_above m ended over number newest before more a near some (stays p) h =
    let history = newest ∷ before in
    let k = within_due m ended number history (all_after (IsAlike m) more history a) (omega (arith, some, ap length p)) in
    absurd (omega (arith, h, k, ap newest_place p))
item_above m ended over number newest before more a near some (next x later p q r) h =
    let history = newest ∷ before in
    let list : more ++ history ≡ later ++ (x ∷ history) = ap (λ xs. xs ++ history) p ∙ append_assoc later (x ∷ []) history in
    let all = all_after (IsAlike m) later (x ∷ history) (subst (λ h. AllByRecursion (IsAlike m) h) list a) in
    subst (λ h. Above (due_stitched over h) (due_stitched ended history)) (sym list)
    (step (continues x history) refl all (omega (arith, h, ap newest_place r)) (near later x p q))
  where
    step : (b : Bool) → continues x (newest ∷ before) ≡ b → AllByRecursion (IsAlike m) (x ∷ newest ∷ before) → length (due_stitched ended (newest ∷ before)) ≤ newest_place (x ∷ newest ∷ before)
        → x.segment.discontinuity_sequence ≤ newest_discontinuity (newest ∷ before) + 1000 → Above (due_stitched over (later ++ (x ∷ newest ∷ before))) (due_stitched ended (newest ∷ before))
    step true e all h n =
        let k = inside_due m ended [] (newest ∷ before) all.1 (omega arith) in
        let z : newest_place (x ∷ newest ∷ before) ≡ newest_place (newest ∷ before) = ap (λ b. cond b (newest_place (newest ∷ before)) (length (stitched (newest ∷ before)))) e in
        absurd (omega (arith, h, k, z))
    step false e all h n = above_due m ended over later x (newest ∷ before) all.0 all.1 e n

-- ---- the state

-- the last playlist's history, and a window that begins no later than its first segment's item
pub record WindowStanding (last : Playlist) (history : List Marked) (start : ℕ) : Type 0 where
  pub standing : Standing last history
  pub begins_by : start ≤ item_place (first_number last.segments) history

some_up_to : (last : Playlist) (history : List Marked) → Standing last history → 0 < length (up_to (first_number last.segments) history)
some_up_to last history s = grind (arith, up_to_some)

pub start_inside : (last : Playlist) (history : List Marked) (start : ℕ) → WindowStanding last history start → (ended : Bool) → start < length (due_stitched ended history)
start_inside last history start s ended = grind (arith, within_due, some_up_to)

pub due_on : (m : Moment) (last playlist : Playlist) (history : List Marked) → Standing last history → Passed last playlist → IsSoundPlaylist playlist
    → GoesOn (due_stitched last.end_list history) (due_stitched playlist.end_list (history_after m history playlist))
due_on m last playlist history s p r = step last.end_list refl
  where
    step : (b : Bool) → last.end_list ≡ b → GoesOn (due_stitched b history) (due_stitched playlist.end_list (history_after m history playlist))
    step true e =
        let all = p.end_list e in
        let none = no_new m last playlist history s p r all.2 in
        ([], ap (λ h. due_stitched playlist.end_list h) none ∙ ap (λ b. due_stitched b history) all.0)
    step false e =
        let g = history_grows m history (filter (is_new history) playlist.segments) in
        subst (λ h. GoesOn (due_stitched false history) (due_stitched playlist.end_list h)) (sym g.1) (due_grows playlist.end_list g.0 history)

pub due_have_init_sections : (m ended : Bool) (history : List Marked) → AllByRecursion (IsAlike m) history → HaveInitSections m (due_stitched ended history)
unfolding HaveInitSections
due_have_init_sections m ended history a p h =
    let r = list_rest ended history in
    stitched_have_init_sections m history a p (subst (λ xs. In p xs) (sym r.is) (in_after p r.rest (due_stitched ended history) h))

-- what holds of the place where the next window begins
record Begun (start later place : ℕ) (old new : List Piece) : Type 0 where
  on : start ≤ later
  within : later ≤ length old
  some : later < length new
  at_most : later ≤ place
  above : later ≡ length old → Above new old

begun_step : (start was place : ℕ) (old new : List Piece) → start ≤ was → was ≤ place → start < length old → place < length new → (length old ≤ place → Above new old)
    → (b : Bool) → Begun start (cond b start (min place (length old))) place old new
begun_step start was place old new h k i s a b = grind arith

begun : (m : Moment) (last playlist : Playlist) (history : List Marked) (start : ℕ) → WindowStanding last history start → Passed last playlist → Standing playlist (history_after m history playlist)
    → Begun start (start_after (Some last) start history playlist (history_after m history playlist)) (item_place (first_number playlist.segments) (history_after m history playlist))
    (due_stitched last.end_list history) (due_stitched playlist.end_list (history_after m history playlist))
begun m last playlist [] start s p t = absurd (omega (arith, s.standing.some))
begun m last playlist (newest ∷ before) start s p t =
    let history = newest ∷ before in
    let n = first_number last.segments in
    let k = first_number playlist.segments in
    let new = past newest.segment.media_sequence playlist.segments in
    let g = history_grows m history new in
    let b = has_init_sections last.segments in
    let end : newest.segment.media_sequence + 1 ≡ end_number last.segments = s.standing.falls.0 in
    let whole : AllByRecursion (IsAlike b) (g.0 ++ history) = subst (λ h. AllByRecursion (IsAlike b) h) g.1 (subst (λ x. AllByRecursion (IsAlike x) (history_after m history playlist)) p.with_init_sections t.alike) in
    let falls : FallFrom (end_number playlist.segments) (g.0 ++ history) = subst (λ h. FallFrom (end_number playlist.segments) h) g.1 t.falls in
    let near : (later : List Marked) (x : Marked) → g.0 ≡ later ++ (x ∷ []) → k ≡ newest.segment.media_sequence + 1 → x.segment.discontinuity_sequence ≤ newest_discontinuity history + 1000 =
    λ later x e c.
    let all = all_past newest.segment.media_sequence k playlist.segments (omega (arith, c)) t.read.numbers in
    let d = first_shown m history new later x (g.1 ∙ ap (λ xs. xs ++ history) e ∙ append_assoc later (x ∷ []) history) in
    omega (arith, d, ap first_discontinuity all, p.near (c ∙ end), s.standing.discontinuity_sequence) in
    let some_new = up_to_some k (end_number playlist.segments) (g.0 ++ history) falls (omega (arith, t.read.some)) (omega (arith, t.long, ap length g.1)) in
    let done = begun_step start (item_place n history) (item_place k (g.0 ++ history)) (due_stitched last.end_list history) (due_stitched playlist.end_list (g.0 ++ history))
    s.begins_by (place_grows (up_to n history) (up_to k (g.0 ++ history)) (up_to_grows n k g.0 history p.not_back)) (start_inside last history start s last.end_list)
    (within_due b playlist.end_list k (g.0 ++ history) whole some_new)
    (item_above b last.end_list playlist.end_list k newest before g.0 whole near some_new (begins k (end_number playlist.segments) g.0 newest before falls (omega (arith, end, p.no_gap))))
    (k == n) in
    subst (λ h. Begun start (start_after (Some last) start history playlist h) (item_place k h) (due_stitched last.end_list history) (due_stitched playlist.end_list h)) (sym g.1) done

pub first_stays : (m : Moment) (last playlist : Playlist) (history : List Marked) → Standing last history → first_numbers (history_after m history playlist) ≡ first_numbers history
first_stays m last playlist [] s = absurd (omega (arith, s.some))
first_stays m last playlist (newest ∷ before) s =
    let g = history_grows m (newest ∷ before) (past newest.segment.media_sequence playlist.segments) in
    ap first_numbers g.1 ∙ first_numbers_stay g.0 newest before

window_follows : (m : Moment) (last playlist : Playlist) (history : List Marked) (start : ℕ) → WindowStanding last history start → Passed last playlist → Standing playlist (history_after m history playlist)
    → Follows (cut (first_numbers (history_after m history playlist)) (start_after (Some last) start history playlist (history_after m history playlist)) (due_stitched playlist.end_list (history_after m history playlist)))
    (cut (first_numbers history) start (due_stitched last.end_list history))
window_follows m last playlist history start s p t =
    let new = history_after m history playlist in
    let b = has_init_sections last.segments in
    let later = start_after (Some last) start history playlist new in
    let k = begun m last playlist history start s p t in
    let alike : AllByRecursion (IsAlike b) new = subst (λ x. AllByRecursion (IsAlike x) new) p.with_init_sections t.alike in
    let done = follows b (first_numbers history) (due_stitched last.end_list history) (due_stitched playlist.end_list new) start later
    (due_on m last playlist history s.standing p t.read) (due_have_init_sections b last.end_list history s.standing.alike) (due_have_init_sections b playlist.end_list new alike)
    (start_inside last history start s last.end_list) k.on k.within k.some k.above in
    subst (λ f. Follows (cut f later (due_stitched playlist.end_list new)) (cut (first_numbers history) start (due_stitched last.end_list history))) (sym (first_stays m last playlist history s.standing)) done

-- ---- over all events

unfoldable pub WindowOf : List Accepted → List Marked → ℕ → Type 0
WindowOf [] history start = history ≡ []
WindowOf (r ∷ before) history start = WindowStanding r.playlist history start

pub record Holds (p : Told) : Type 0 where
  pub store : IsStore p.store
  pub standing : WindowOf p.accepted p.history p.start

pub plain_standing : (accepted : List Accepted) (history : List Marked) (start : ℕ) → WindowOf accepted history start → StandingOf accepted history
unfolding WindowOf StandingOf
plain_standing [] history start h = h
plain_standing (r ∷ before) history start h = h.standing

start_step : (m : Moment) (accepted : List Accepted) (history : List Marked) (start : ℕ) (playlist : Playlist) → WindowOf accepted history start → succession_fault (last_playlist accepted) playlist ≡ None
    → Standing playlist (history_after m history playlist)
    → start_after (last_playlist accepted) start history playlist (history_after m history playlist) ≤ item_place (first_number playlist.segments) (history_after m history playlist)
unfolding WindowOf
start_step m accepted history start playlist h f t = grind (arith, begun, passed)

pub first_none : {A : Type 0} (a b : Option A) → or_earlier a b ≡ None → a ≡ None
first_none None b e = refl
first_none (Some x) b e = absurd (cc)

pub refresh_holds : (tolerance : ℕ) (p : Told) (playlist : Playlist) → Holds p → IsSoundPlaylist playlist → succession_fault (last_playlist p.accepted) playlist ≡ None → Holds (after_refresh tolerance p playlist)
unfolding WindowOf
refresh_holds tolerance p playlist h r f =
    let m = moment tolerance p playlist in
    let new = history_after m p.history playlist in
    let t = new_standing m p.accepted p.history playlist (plain_standing p.accepted p.history p.start h.standing) r refl h.store f in
    let start = start_after (last_playlist p.accepted) p.start p.history playlist new in
    record {
      store = kept_pods (breaks_in_use start (first_number playlist.segments) new) p.store h.store;
      standing = record { standing = t; begins_by = start_step m p.accepted p.history p.start playlist h.standing f t };
    }

refusal_step : (tolerance : ℕ) (p : Told) (playlist : Playlist) → Holds p → IsSoundPlaylist playlist → (o : Option RefreshFault) → refusal tolerance p playlist ≡ o
    → Holds (cond (is_none o) (after_refresh tolerance p playlist) p)
refusal_step tolerance p playlist h r None e = refresh_holds tolerance p playlist h r (first_none (succession_fault (last_playlist p.accepted) playlist) _ e)
refusal_step tolerance p playlist h r (Some x) e = h

event_holds : (tolerance : ℕ) (p : Told) (event : Event) → Holds p → IsSoundEvent event → Holds (happens tolerance p event)
event_holds tolerance p (decided ds) h g = record { store = decide_pods ds p.store g h.store; standing = h.standing }
event_holds tolerance p (refreshed playlist) h g = refusal_step tolerance p playlist h g (refusal tolerance p playlist) refl

pub holds : (tolerance : ℕ) (events : List Event) → AllByRecursion IsSoundEvent events → Holds (told tolerance events)
unfolding WindowOf HavePods IsPodOrNone
holds tolerance [] g = record { store = record { entries = tt; fallback = tt }; standing = refl }
holds tolerance (event ∷ before) g = event_holds tolerance (told tolerance before) event (holds tolerance before g.1) g.0

-- ---- each paced playlist succeeds the one before

window_cut : (p : Told) (playlist : Playlist) → (owed_for p playlist).segments ≡ cut (first_numbers p.history) p.start (due_stitched playlist.end_list p.history)
window_cut p playlist = grind (arith, map-window, cut_is)

pub same_start : (a b start other : ℕ) → a ≡ b → (t : Bool) → (a == b) ≡ t → cond t start other ≡ start
same_start a b start other e true k = refl
same_start a b start other e false k = absurd (eqb-false a b k e)

succeeds : (tolerance : ℕ) (p : Told) (a : Accepted) (earlier : List Accepted) (playlist : Playlist) → p.accepted ≡ a ∷ earlier → WindowStanding a.playlist p.history p.start → Passed a.playlist playlist → IsSoundPlaylist playlist
    → Standing playlist (history_after (moment tolerance p playlist) p.history playlist) → MayFollow (owed_for (after_refresh tolerance p playlist) playlist) (owed_for p a.playlist)
succeeds tolerance p a earlier playlist e s q r t =
    let m = moment tolerance p playlist in
    let last = a.playlist in
    let history = p.history in
    let new = history_after m history playlist in
    let begin : start_after (last_playlist p.accepted) p.start history playlist new ≡ start_after (Some last) p.start history playlist new = ap (λ x. start_after (last_playlist x) p.start history playlist new) e in
    let is : (owed_for (after_refresh tolerance p playlist) playlist).segments ≡ cut (first_numbers new) (start_after (Some last) p.start history playlist new) (due_stitched playlist.end_list new)
    = window_cut (after_refresh tolerance p playlist) playlist ∙ ap (λ k. cut (first_numbers new) k (due_stitched playlist.end_list new)) begin in
    let was = window_cut p last in
    let f = window_follows m last playlist history p.start s q t in
    let g : Follows (owed_for (after_refresh tolerance p playlist) playlist).segments (owed_for p last).segments
    = subst (λ xs. Follows (owed_for (after_refresh tolerance p playlist) playlist).segments xs) (sym was) (subst (λ xs. Follows xs (cut (first_numbers history) p.start (due_stitched last.end_list history))) (sym is) f) in
    record {
      version = ap (λ v. max v 6) q.version;
      target_duration = q.target_duration;
      playlist_type = q.playlist_type;
      with_init_sections = g.with_init_sections;
      not_back = g.not_back;
      no_gap = g.no_gap;
      not_shrunk = g.not_shrunk;
      same = g.same;
      apart = g.apart;
      end_list = λ over.
          let all = q.end_list over in
          let none = no_new m last playlist history s.standing q r all.2 in
          let stay = same_start (first_number playlist.segments) (first_number last.segments) p.start (min (item_place (first_number playlist.segments) history) (length (due_stitched last.end_list history))) all.1 _ refl in
          let same : (owed_for (after_refresh tolerance p playlist) playlist).segments ≡ (owed_for p last).segments =
          is
          ∙ ap (λ h. cut (first_numbers h) (start_after (Some last) p.start history playlist h) (due_stitched playlist.end_list h)) none
          ∙ ap (λ k. cut (first_numbers history) k (due_stitched playlist.end_list history)) stay
          ∙ ap (λ b. cut (first_numbers history) p.start (due_stitched b history)) (all.0 ∙ sym over)
          ∙ sym was in
          (all.0, ap first_number same, ap end_number same);
    }

pub from_told : (tolerance : ℕ) (p : Told) (accepted : List Accepted) (playlist last : Playlist) → p.accepted ≡ accepted → Holds p → IsSoundPlaylist playlist → refusal tolerance p playlist ≡ None
    → owed p ≡ Some last → MayFollow (owed_for (after_refresh tolerance p playlist) playlist) last
unfolding WindowOf
from_told tolerance p [] playlist last e h r f o =
    let none : owed p ≡ None = ap (λ a. option_map (owed_for p) (last_playlist a)) e in absurd (cc)
from_told tolerance p (a ∷ earlier) playlist last e h r f o =
    let is : owed p ≡ Some (owed_for p a.playlist) = ap (λ a. option_map (owed_for p) (last_playlist a)) e in
    let same : owed_for p a.playlist ≡ last = cc in
    let none = first_none (succession_fault (last_playlist p.accepted) playlist) _ f in
    let was : WindowStanding a.playlist p.history p.start = subst (λ x. WindowOf x p.history p.start) e h.standing in
    let q = passed a.playlist playlist (subst (λ x. succession_fault (last_playlist x) playlist ≡ None) e none) in
    let t = new_standing (moment tolerance p playlist) p.accepted p.history playlist (plain_standing p.accepted p.history p.start h.standing) r refl h.store none in
    subst (λ x. MayFollow (owed_for (after_refresh tolerance p playlist) playlist) x) same (succeeds tolerance p a earlier playlist e was q r t)

pub each_succeeds : EachSucceeds
each_succeeds tolerance playlist before last g f o =
    let p = told tolerance before in
    let now : told tolerance (refreshed playlist ∷ before) ≡ after_refresh tolerance p playlist = ap (λ o. cond (is_none o) (after_refresh tolerance p playlist) p) f in
    subst (λ u. MayFollow (owed_for u playlist) last) (sym now)
    (from_told tolerance p p.accepted playlist last refl (holds tolerance before g.1) g.0 f o)

-- ---- the paced list only grows

numbered_on : (first : Numbers) (xs ys : List Piece) → GoesOn xs ys → GoesOn (numbered first xs) (numbered first ys)
numbered_on first xs ys (more, e) = subst (λ zs. GoesOn (numbered first xs) (numbered first zs)) (sym e) (numbered_grows first more xs)

pub refresh_grows : (tolerance : ℕ) (p : Told) (accepted : List Accepted) (playlist : Playlist) → p.accepted ≡ accepted → Holds p → IsSoundPlaylist playlist → succession_fault (last_playlist accepted) playlist ≡ None
    → GoesOn (due_list (has_ended accepted) p.history) (due_list playlist.end_list (history_after (moment tolerance p playlist) p.history playlist))
unfolding WindowOf
refresh_grows tolerance p [] playlist e h r f =
    let none : p.history ≡ [] = subst (λ x. WindowOf x p.history p.start) e h.standing in
    let new = due_list playlist.end_list (history_after (moment tolerance p playlist) p.history playlist) in
    (new, sym (append-nil new) ∙ ap (λ h. new ++ due_list false h) (sym none))
refresh_grows tolerance p (a ∷ earlier) playlist e h r f =
    let s : WindowStanding a.playlist p.history p.start = subst (λ x. WindowOf x p.history p.start) e h.standing in
    let m = moment tolerance p playlist in
    let new = history_after m p.history playlist in
    let g = due_on m a.playlist playlist p.history s.standing (passed a.playlist playlist f) r in
    subst (λ first. GoesOn (due_list a.playlist.end_list p.history) (numbered first (due_stitched playlist.end_list new))) (sym (first_stays m a.playlist playlist p.history s.standing))
    (numbered_on (first_numbers p.history) (due_stitched a.playlist.end_list p.history) (due_stitched playlist.end_list new) g)

grow_by : (tolerance : ℕ) (p : Told) (playlist : Playlist) → Holds p → IsSoundPlaylist playlist → (o : Option RefreshFault) → refusal tolerance p playlist ≡ o
    → GoesOn (whole_stitched_list p) (whole_stitched_list (cond (is_none o) (after_refresh tolerance p playlist) p))
grow_by tolerance p playlist h r None e = refresh_grows tolerance p p.accepted playlist refl h r (first_none (succession_fault (last_playlist p.accepted) playlist) _ e)
grow_by tolerance p playlist h r (Some x) e = goes_nowhere (whole_stitched_list p)

event_grows : (tolerance : ℕ) (p : Told) (event : Event) → Holds p → IsSoundEvent event → GoesOn (whole_stitched_list p) (whole_stitched_list (happens tolerance p event))
event_grows tolerance p (decided ds) h g = goes_nowhere (whole_stitched_list p)
event_grows tolerance p (refreshed playlist) h g = grow_by tolerance p playlist h g (refusal tolerance p playlist) refl

pub only_grows : OnlyGrows
only_grows tolerance [] before g = goes_nowhere (whole_stitched_list (told tolerance before))
only_grows tolerance (event ∷ later) before g =
    goes_on_through (whole_stitched_list (told tolerance before)) (whole_stitched_list (told tolerance (later ++ before))) (whole_stitched_list (told tolerance (event ∷ (later ++ before))))
    (only_grows tolerance later before g.1) (event_grows tolerance (told tolerance (later ++ before)) event (holds tolerance (later ++ before) g.1) g.0)
