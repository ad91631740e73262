-- A break is in use exactly if a segment of its pod is written, or it was entered last.
use Rattle.std.proofs.Common.{◌≡◌, ℕ, ◌-◌, ◌<◌, ◌≤◌, Bool, true, false, cond, ◌&&◌, ◌||◌, List, [], ◌∷◌, ◌++◌, map, zero, suc, take, drop, length, reverse, refl, ap, sym, ◌∙◌, subst, length-append, arith}
use Rattle.std.proofs.lemmas.Bool.{le-leb, ltb-true}
use Rattle.std.proofs.Math.Seq.{take-append_seam}
use Rattle.std.specs.Prelude.{Option, Some, is_some, nat_le}
use Rattle.std.specs.List.{AllByRecursion, list_any}
use Rattle.playlist_model.specs.declared.Playlist.{Playlist}
use Rattle.pod_store.specs.Pods.{PodSegment, Ad}
use Rattle.pod_store.specs.Marks.{Mark, Marked, newest_mark, continues}
use Rattle.stitcher.specs.Stitched.{Piece, Numbers, ad_piece, ad_pieces, pieces_of_ads, run_pieces, stitched, numbered, first_numbers, from_place}
use Rattle.stitcher.specs.Paced.{PodRest, older, due, newest_pieces, due_with, due_stitched, rest_pieces}
use Rattle.break_finder.specs.Known.{Accepted, is_this_break}
use Rattle.channel_spec.specs.Marking.{last_entered}
use Rattle.channel_spec.specs.Successor.{first_number, end_number, has_init_sections}
use Rattle.channel_spec.specs.Live.{told, is_mark_of, in_use, rest_before, rest_id, rest_over, last_playlist, window_from}
use Rattle.channel_spec.specs.LiveLaws.{Linked}
use Rattle.channel_spec.specs.BreakLaws.{is_of_pod, InUseIsWritten}
use Rattle.channel_spec.proofs.Windows.{length-reverse, reverse-cons}
use Rattle.channel_spec.proofs.Places.{fall_length}
use Rattle.channel_spec.proofs.Fills.{IsGood, IsAlike}
use Rattle.channel_spec.proofs.Risen.{FallFrom}
use Rattle.channel_spec.proofs.EachWindow.{WindowOf, WindowStanding, holds}
use Rattle.channel_spec.proofs.Linked.{histories_are_linked}
use Rattle.channel_spec.proofs.HeldPods.{in_use_is}
use Rattle.channel_spec.proofs.KeptSteps.{cut}
use Rattle.channel_spec.proofs.ShownAlone.{rest_of, length-numbered}
use Rattle.channel_spec.proofs.DueCut.{length_of, due_newest, linked_cut}
use Rattle.channel_spec.proofs.Starts.{StartAt, StartOf, all_start, rest_with, rest_found, rest_is, Below, below_start}
use Rattle.channel_spec.proofs.KeptWhole.{stand_on, linked_behind}

-- ---- lists

any_append : {A : Type 0} (test : A → Bool) (xs ys : List A) → list_any test (xs ++ ys) ≡ (list_any test xs || list_any test ys)
any_append test [] ys = refl
any_append test (x ∷ xs) ys = grind (arith, any_append test xs ys)

or_swap : (a b : Bool) → (a || b) ≡ (b || a)
or_swap true true = refl
or_swap true false = refl
or_swap false true = refl
or_swap false false = refl

or_false : (b : Bool) → (b || false) ≡ b
or_false true = refl
or_false false = refl

or_twice : (a b : Bool) → (a || (a || b)) ≡ (a || b)
or_twice true b = refl
or_twice false b = refl

pub any_reverse : {A : Type 0} (test : A → Bool) (xs : List A) → list_any test (reverse xs) ≡ list_any test xs
any_reverse test [] = refl
any_reverse test (x ∷ xs) = grind (arith, reverse-cons, any_append, reverse, or_swap, or_false, any_reverse test xs)

-- ---- pieces of a pod

abbrev of_pod : List ℕ → Piece → Bool
of_pod id p = is_mark_of id p.mark

abbrev of_mark : Mark → Piece → Type 0
of_mark mark p = p.mark ≡ Some mark

all_append : {A : Type 0} (P : A → Type 0) (xs ys : List A) → AllByRecursion P xs → AllByRecursion P ys → AllByRecursion P (xs ++ ys)
all_append P [] ys h k = k
all_append P (x ∷ xs) ys h k = (h.0, all_append P xs ys h.1 k)

pub all_drop : {A : Type 0} (P : A → Type 0) (n : ℕ) (xs : List A) → AllByRecursion P xs → AllByRecursion P (drop n xs)
all_drop P zero xs h = h
all_drop P (suc n) [] h = tt
all_drop P (suc n) (x ∷ xs) h = all_drop P n xs h.1

later_of : (mark : Mark) (ad : Ad) (segments : List PodSegment) → AllByRecursion (of_mark mark) (map (ad_piece mark false ad) segments)
later_of mark ad [] = tt
later_of mark ad (s ∷ segments) = (refl, later_of mark ad segments)

ad_of : (mark : Mark) (ad : Ad) (segments : List PodSegment) → AllByRecursion (of_mark mark) (ad_pieces mark ad segments)
ad_of mark ad [] = tt
ad_of mark ad (s ∷ segments) = (refl, later_of mark ad segments)

pub ads_of : (mark : Mark) (ads : List Ad) → AllByRecursion (of_mark mark) (pieces_of_ads mark ads)
ads_of mark [] = tt
ads_of mark (ad ∷ ads) = grind (arith, all_append, ad_of, ads_of mark ads)

pub due_of : (mark : Mark) (n : ℕ) (pieces : List Piece) → AllByRecursion (of_mark mark) pieces → AllByRecursion (of_mark mark) (due n pieces)
due_of mark n [] h = tt
due_of mark n (p ∷ pieces) h = grind (arith, due_of mark (n - p.segment.duration) pieces h.1)

-- pieces of one pod, if there are any
any_of : (id : List ℕ) (mark : Mark) (pieces : List Piece) → AllByRecursion (of_mark mark) pieces → 0 < length pieces → list_any (of_pod id) pieces ≡ is_mark_of id (Some mark)
any_of id mark [] h n = absurd (omega (arith, n))
any_of id mark (p ∷ []) h n = grind arith
any_of id mark (p ∷ q ∷ pieces) h n = grind (arith, any_of id mark (q ∷ pieces) h.1 (omega arith))

due_some : (n : ℕ) (pieces : List Piece) → 0 < length pieces → 0 < length (due n pieces)
due_some n [] h = absurd (omega (arith, h))
due_some n (p ∷ pieces) h = omega arith

-- what stands for a run is of its pod, or of none
any_newest : (m whole : Bool) (n : ℕ) (id : List ℕ) (s : Marked) (o : Option Mark) → IsGood m o → list_any (of_pod id) (newest_pieces whole n s o) ≡ is_mark_of id o
unfolding IsGood
any_newest m whole n id s o g = grind (arith, any_reverse, any_of, ads_of, due_of, due_some)

any_run : (m : Bool) (id : List ℕ) (s : Marked) (o : Option Mark) → IsGood m o → list_any (of_pod id) (run_pieces s o) ≡ is_mark_of id o
unfolding IsGood
any_run m id s o g = grind (arith, any_reverse, any_of, ads_of)

-- ---- the marks of segments

abbrev marked_by : List ℕ → Marked → Bool
marked_by id s = is_mark_of id s.mark

-- a segment that goes on a run marks nothing more
goes_on : (id : List ℕ) (s : Marked) (before : List Marked) → s.mark ≡ newest_mark before → list_any (marked_by id) (s ∷ before) ≡ list_any (marked_by id) before
goes_on id s before e = grind arith

any_stitched : (m : Bool) (id : List ℕ) (history : List Marked) → Linked history → AllByRecursion (IsAlike m) history → list_any (of_pod id) (stitched history) ≡ list_any (marked_by id) history
any_stitched m id [] l a = refl
any_stitched m id (s ∷ before) l a = step (continues s before) refl (any_stitched m id before l.1 a.1)
  where
    step : (b : Bool) → continues s before ≡ b → list_any (of_pod id) (stitched before) ≡ list_any (marked_by id) before
        → list_any (of_pod id) (cond b [] (run_pieces s s.mark) ++ stitched before) ≡ list_any (marked_by id) (s ∷ before)
    step true e rec = rec ∙ sym (goes_on id s before (l.0 e))
    step false e rec =
        any_append (of_pod id) (run_pieces s s.mark) (stitched before)
        ∙ (ap (λ b. b || list_any (of_pod id) (stitched before)) (any_run m id s s.mark a.0.mark) ∙ ap (λ b. is_mark_of id s.mark || b) rec)

older_linked : (history : List Marked) → Linked history → Linked (older history)
older_linked [] l = tt
older_linked (s ∷ before) l = grind (arith, older_linked before l.1)

older_alike : (m : Bool) (history : List Marked) → AllByRecursion (IsAlike m) history → AllByRecursion (IsAlike m) (older history)
older_alike m [] a = tt
older_alike m (s ∷ before) a = grind (arith, older_alike m before a.1)

any_older : (id : List ℕ) (s : Marked) (before : List Marked) → Linked (s ∷ before) → (is_mark_of id s.mark || list_any (marked_by id) (older (s ∷ before))) ≡ list_any (marked_by id) (s ∷ before)
any_older id s [] l = grind arith
any_older id s (t ∷ before) l = grind (arith, any_older id t before l.1)

-- a list with what is due of its newest run has pieces of the pods of its marks
any_due : (m whole : Bool) (n : ℕ) (id : List ℕ) (history : List Marked) → Linked history → AllByRecursion (IsAlike m) history → list_any (of_pod id) (due_with whole n history) ≡ list_any (marked_by id) history
any_due m whole n id [] l a = refl
any_due m whole n id (s ∷ before) l a =
    ap (list_any (of_pod id)) (due_newest whole n s before l)
    ∙ (any_append (of_pod id) (newest_pieces whole n s s.mark) (stitched (older (s ∷ before)))
    ∙ (ap (λ b. b || list_any (of_pod id) (stitched (older (s ∷ before)))) (any_newest m whole n id s s.mark a.0.mark)
    ∙ (ap (λ b. is_mark_of id s.mark || b) (any_stitched m id (older (s ∷ before)) (older_linked (s ∷ before) l) (older_alike m (s ∷ before) a)) ∙ any_older id s before l)))

-- ---- the rest

any_rest : (id : List ℕ) (o : Option PodRest) → (is_some o ≡ true → 0 < length (rest_pieces o)) → list_any (of_pod id) (rest_pieces o) ≡ is_this_break id (rest_id o)
any_rest id o h = grind (arith, any_reverse, any_of, all_drop, ads_of, length-reverse)

rest_some : (s : Marked) (gone : List Marked) (start : ℕ) → Below s gone start (rest_with 0 start (length (stitched (rest_of s gone))) gone)
    → is_some (rest_with 0 start (length (stitched (rest_of s gone))) gone) ≡ true → 0 < length (rest_pieces (rest_with 0 start (length (stitched (rest_of s gone))) gone))
rest_some s gone start b e = grind (arith, rest_of, rest_with, length-append, rest_found, ltb-true)

-- ---- the window

any_items : (id : List ℕ) (first : Numbers) (k : ℕ) (pieces : List Piece) → list_any (is_of_pod id) (take k (numbered first pieces)) ≡ list_any (of_pod id) (take k pieces)
any_items id first zero pieces = refl
any_items id first (suc k) [] = refl
any_items id first (suc k) (p ∷ pieces) = ap (λ b. is_mark_of id p.mark || b) (any_items id first k pieces)

any_window : (id : List ℕ) (first : Numbers) (stood below pieces : List Piece) (start : ℕ) → pieces ≡ stood ++ below → length below ≡ start
    → list_any (is_of_pod id) (reverse (from_place start (numbered first pieces))) ≡ list_any (of_pod id) stood
any_window id first stood below pieces start e f =
    any_reverse (is_of_pod id) (from_place start (numbered first pieces))
    ∙ (any_items id first (length (numbered first pieces) - start) pieces
    ∙ ap (list_any (of_pod id)) (ap (λ k. take k pieces) (omega (arith, length-numbered first pieces, ap length e, length-append stood below, f)) ∙ (ap (take (length stood)) e ∙ take-append_seam stood below)))

-- ---- the shown segments

none_used : (first end : ℕ) (id : List ℕ) (gone : List Marked) → FallFrom end gone → end ≤ first → list_any (λ (s : Marked). nat_le first s.segment.media_sequence && is_mark_of id s.mark) gone ≡ false
none_used first end id [] f h = refl
none_used first end id (g ∷ gone) f h = grind (arith, none_used first g.segment.media_sequence id gone f.1 (omega (arith, f.0, h)))

any_shown : (first end : ℕ) (id : List ℕ) (newer : List Marked) (s : Marked) (gone : List Marked) → FallFrom end (newer ++ (s ∷ gone)) → s.segment.media_sequence ≡ first
    → list_any (λ (x : Marked). nat_le first x.segment.media_sequence && is_mark_of id x.mark) (newer ++ (s ∷ gone)) ≡ list_any (marked_by id) (newer ++ (s ∷ []))
any_shown first end id [] s gone f e = grind (arith, le-leb, none_used)
any_shown first end id (x ∷ newer) s gone f e = grind (arith, le-leb, fall_length, any_shown first x.segment.media_sequence id newer s gone f.1 e)

alike_cut : (m : Bool) (newer : List Marked) (s : Marked) (gone : List Marked) → AllByRecursion (IsAlike m) (newer ++ (s ∷ gone)) → AllByRecursion (IsAlike m) (newer ++ (s ∷ []))
alike_cut m [] s gone a = (a.0, tt)
alike_cut m (x ∷ newer) s gone a = (a.0, alike_cut m newer s gone a.1)

-- ---- after all events

regroup : (a l r : Bool) → ((a || l) || r) ≡ ((a || r) || l)
regroup true l r = refl
regroup false true true = refl
regroup false true false = refl
regroup false false true = refl
regroup false false false = refl

in_window : (id : List ℕ) (p : Playlist) (newer : List Marked) (s : Marked) (gone : List Marked) (start : ℕ) → WindowStanding p (newer ++ (s ∷ gone)) start → StartAt s.segment.media_sequence (newer ++ (s ∷ gone)) start
    → Linked (newer ++ (s ∷ gone)) → s.segment.media_sequence ≡ first_number p.segments
    → in_use start (first_number p.segments) (newer ++ (s ∷ gone)) id ≡ (list_any (is_of_pod id) (window_from start (newer ++ (s ∷ gone)) p) || is_this_break id (last_entered (newer ++ (s ∷ gone))))
in_window id p newer s gone start w at linked number =
    let history = newer ++ (s ∷ gone) in
    let first = first_number p.segments in
    let end = end_number p.segments in
    let m = has_init_sections p.segments in
    let falls = w.standing.falls in
    let there = rest_with 0 start (length (stitched (rest_of s gone))) gone in
    let b = below_start end start newer s gone falls (linked_behind newer (s ∷ gone) linked).1 at in
    let shown = newer ++ (s ∷ []) in
    let due = due_with p.end_list (length_of history) shown in
    let window : list_any (is_of_pod id) (window_from start history p) ≡ (list_any (marked_by id) shown || is_this_break id (rest_id there)) =
    any_window id (first_numbers history) (due ++ rest_pieces there) b.below (due_stitched p.end_list history) start (stand_on p.end_list newer s gone start there b linked) b.size
    ∙ (any_append (of_pod id) due (rest_pieces there)
    ∙ (ap (λ x. x || list_any (of_pod id) (rest_pieces there)) (any_due m p.end_list (length_of history) id shown (linked_cut newer s gone linked) (alike_cut m newer s gone w.standing.alike))
    ∙ ap (λ x. list_any (marked_by id) shown || x) (any_rest id there (rest_some s gone start b)))) in
    let rest : rest_before start first history ≡ there = ap (λ n. rest_over 0 start n history) (sym number) ∙ rest_is end start newer s gone falls in
    in_use_is start first history id
    ∙ (ap (λ x. (x || is_this_break id (last_entered history)) || is_this_break id (rest_id (rest_before start first history))) (any_shown first end id newer s gone falls number)
    ∙ (ap (λ o. (list_any (marked_by id) shown || is_this_break id (last_entered history)) || is_this_break id (rest_id o)) rest
    ∙ (regroup (list_any (marked_by id) shown) (is_this_break id (last_entered history)) (is_this_break id (rest_id there)) ∙ ap (λ x. x || is_this_break id (last_entered history)) (sym window))))

for_last : (id : List ℕ) (accepted : List Accepted) (history : List Marked) (start : ℕ) (p : Playlist) → WindowOf accepted history start → StartOf accepted history start → Linked history
    → last_playlist accepted ≡ Some p
    → in_use start (first_number p.segments) history id ≡ (list_any (is_of_pod id) (window_from start history p) || is_this_break id (last_entered history))
unfolding WindowOf StartOf
for_last id [] history start p w at linked e = absurd (cc)
for_last id (a ∷ earlier) history start p w at linked e =
    let same : a.playlist ≡ p = cc in
    subst (λ (q : Playlist). in_use start (first_number q.segments) history id ≡ (list_any (is_of_pod id) (window_from start history q) || is_this_break id (last_entered history))) same (here a.playlist w at)
  where
    here : (q : Playlist) → WindowStanding q history start → StartAt (first_number q.segments) history start
        → in_use start (first_number q.segments) history id ≡ (list_any (is_of_pod id) (window_from start history q) || is_this_break id (last_entered history))
    here q st begin =
        let first = first_number q.segments in
        let k = cut first (end_number q.segments) history st.standing.falls (omega (arith, st.standing.read.some)) (omega (arith, st.standing.long)) in
        subst (λ h. in_use start first h id ≡ (list_any (is_of_pod id) (window_from start h q) || is_this_break id (last_entered h))) (sym k.is)
        (in_window id q k.newer k.s k.gone start (subst (λ h. WindowStanding q h start) k.is st)
        (subst (λ n. StartAt n (k.newer ++ (k.s ∷ k.gone)) start) (sym k.media_sequence) (subst (λ h. StartAt first h start) k.is begin)) (subst Linked k.is linked) k.media_sequence)

pub in_use_is_written : InUseIsWritten
in_use_is_written tolerance events playlist id sound e =
    let t = told tolerance events in
    for_last id t.accepted t.history t.start playlist (holds tolerance events sound).standing (all_start tolerance events sound) (histories_are_linked tolerance events) e
