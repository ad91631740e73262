-- What is due of the newest run follows from the shown segments and its length so far.
use Rattle.std.proofs.Common.{◌≡◌, ℕ, ◌+◌, ◌-◌, ◌<◌, Bool, true, false, cond, List, [], ◌∷◌, ◌++◌, map, min, reverse, refl, ap, sym, ◌∙◌, subst, append_assoc, arith}
use Rattle.std.proofs.lemmas.Bool.{leb-true}
use Rattle.std.proofs.Math.Decide.{dec_lt}
use Rattle.std.specs.Prelude.{Option, Some, None, nat_le, sum}
use Rattle.std.specs.List.{fold}
use Rattle.playlist_model.specs.Segments.{Segment}
use Rattle.pod_store.specs.Pods.{PodSegment, Ad, pod_ad_total, total}
use Rattle.pod_store.specs.Marks.{Mark, Marked, newest_mark, continues, are_one}
use Rattle.stitcher.specs.Stitched.{Piece, ad_piece, ad_pieces, pieces_of_ads, pod_pieces, stitched}
use Rattle.channel_spec.specs.Marking.{Moment, last_entered, segment_instant, next_mark, next_shown, show_all}
use Rattle.channel_spec.specs.LiveLaws.{Linked}
use Rattle.channel_spec.specs.BreakLaws.{lasts}
use Rattle.channel_spec.specs.Kept.{marked_on, entered_with}
use Rattle.stitcher.specs.Paced.{first_of_run, older, run_length, due, newest_pieces, due_with}
use Rattle.channel_spec.specs.Kept.{capped, length_on}
use Rattle.channel_spec.proofs.Linked.{link_step}
use Rattle.channel_spec.proofs.KeptSteps.{entered_cons}
use Rattle.channel_spec.proofs.Runs.{nothing_continues}
use Rattle.channel_spec.proofs.ShownAlone.{rest_of, run_fill, cut_list}

-- ---- as many pieces are due after one nanosecond more than all of them last

lasts-append : (xs ys : List Piece) → lasts (xs ++ ys) ≡ lasts xs + lasts ys
lasts-append [] ys = omega arith
lasts-append (x ∷ xs) ys = omega (arith, lasts-append xs ys)

sum_on : (k : ℕ) (xs : List ℕ) → fold (λ a b. a + b) k xs ≡ k + sum xs
sum_on k [] = omega arith
sum_on k (x ∷ xs) = omega (arith, sum_on (k + x) xs, sum_on (0 + x) xs)

sum_more : (x : ℕ) (xs : List ℕ) → sum (x ∷ xs) ≡ x + sum xs
sum_more x xs = sum_on (0 + x) xs ∙ omega arith

later_lasts : (mark : Mark) (ad : Ad) (segments : List PodSegment) → lasts (map (ad_piece mark false ad) segments) ≡ sum (map (λ (s : PodSegment). s.duration) segments)
later_lasts mark ad [] = refl
later_lasts mark ad (s ∷ segments) = grind (arith, sum_more, later_lasts mark ad segments)

ad_lasts : (mark : Mark) (ad : Ad) (segments : List PodSegment) → lasts (ad_pieces mark ad segments) ≡ sum (map (λ (s : PodSegment). s.duration) segments)
ad_lasts mark ad segments = grind (arith, later_lasts, sum_more)

ads_last : (mark : Mark) (ads : List Ad) → lasts (pieces_of_ads mark ads) ≡ sum (map pod_ad_total ads)
ads_last mark [] = refl
ads_last mark (ad ∷ ads) = grind (arith, lasts-append, ad_lasts, sum_more, ads_last mark ads)

due_all : (n : ℕ) (pieces : List Piece) → lasts pieces < n → due n pieces ≡ pieces
due_all n [] h = refl
due_all n (p ∷ pieces) h = step (nat_le n p.segment.duration) refl (λ k. due_all (n - p.segment.duration) pieces k)
  where
    step : (b : Bool) → nat_le n p.segment.duration ≡ b → (lasts pieces < n - p.segment.duration → due (n - p.segment.duration) pieces ≡ pieces) → p ∷ cond b [] (due (n - p.segment.duration) pieces) ≡ p ∷ pieces
    step true e rec = absurd (omega (arith, h, leb-true n p.segment.duration e))
    step false e rec = ap (λ xs. p ∷ xs) (rec (omega (arith, h)))

capped_pod : (mark : Mark) (n : ℕ) → due (min n (total mark.pod + 1)) (pod_pieces mark) ≡ due n (pod_pieces mark)
capped_pod mark n = grind (arith, dec_lt, ads_last, min, due_all)

-- ---- the newest run's pieces are those of its newest segment

pub none_first : (x : Marked) (before : List Marked) → x.mark ≡ None → first_of_run x before ≡ x
none_first x [] e = refl
none_first x (t ∷ before) e = ap (λ o. cond (are_one o t.mark) (first_of_run t before) x) e

newest_run : (whole : Bool) (n : ℕ) (x : Marked) (before : List Marked) → Linked (x ∷ before)
    → newest_pieces whole n (first_of_run x before) (first_of_run x before).mark ≡ newest_pieces whole n x x.mark
newest_run whole n x before l = grind (arith, none_first, run_fill)

pub due_newest : (whole : Bool) (n : ℕ) (x : Marked) (before : List Marked) → Linked (x ∷ before) → due_with whole n (x ∷ before) ≡ newest_pieces whole n x x.mark ++ stitched (older (x ∷ before))
due_newest whole n x before l = grind (arith, newest_run)

pieces_capped : (whole : Bool) (n : ℕ) (x : Marked) (o : Option Mark) → newest_pieces whole (capped o n) x o ≡ newest_pieces whole n x o
pieces_capped whole n x None = refl
pieces_capped true n x (Some m) = refl
pieces_capped false n x (Some m) = ap reverse (capped_pod m n)

-- no more of the length counts than the cap
pub due_capped : (whole : Bool) (n : ℕ) (history : List Marked) → Linked history → due_with whole (capped (newest_mark history) n) history ≡ due_with whole n history
due_capped whole n history l = grind (arith, due_newest, pieces_capped)

-- ---- behind which segments are gone

pub alone_linked : (s : Marked) → Linked (s ∷ [])
alone_linked s = (λ e. let k = nothing_continues s in absurd (cc), tt)

pub linked_cut : (newer : List Marked) (s : Marked) (gone : List Marked) → Linked (newer ++ (s ∷ gone)) → Linked (newer ++ (s ∷ []))
linked_cut [] s gone l = alone_linked s
linked_cut (x ∷ []) s gone l = (l.0, linked_cut [] s gone l.1)
linked_cut (x ∷ y ∷ newer) s gone l = (l.0, linked_cut (y ∷ newer) s gone l.1)

older_step : (b : Bool) (a c d e : List Marked) (rest : List Piece) → stitched a ≡ stitched c ++ rest → stitched d ≡ stitched e ++ rest → stitched (cond b a d) ≡ stitched (cond b c e) ++ rest
older_step true a c d e rest f g = f
older_step false a c d e rest f g = g

older_cut : (newer : List Marked) (s : Marked) (gone : List Marked) → Linked (newer ++ (s ∷ gone)) → stitched (older (newer ++ (s ∷ gone))) ≡ stitched (older (newer ++ (s ∷ []))) ++ stitched (rest_of s gone)
unfolding rest_of
older_cut [] s gone l = sym (ap (λ b. stitched (cond b [] []) ++ stitched (rest_of s gone)) (nothing_continues s))
older_cut (x ∷ []) s gone l =
    older_step (continues x (s ∷ [])) (older (s ∷ gone)) (older (s ∷ [])) (s ∷ gone) (s ∷ []) (stitched (rest_of s gone)) (older_cut [] s gone l.1) (cut_list [] s gone l.1)
older_cut (x ∷ y ∷ newer) s gone l =
    older_step (continues x (y ∷ newer)) (older (y ∷ (newer ++ (s ∷ gone)))) (older (y ∷ (newer ++ (s ∷ [])))) (y ∷ (newer ++ (s ∷ gone))) (y ∷ (newer ++ (s ∷ []))) (stitched (rest_of s gone))
    (older_cut (y ∷ newer) s gone l.1) (cut_list (y ∷ newer) s gone l.1)

pub due_cut : (whole : Bool) (n : ℕ) (newer : List Marked) (s : Marked) (gone : List Marked) → Linked (newer ++ (s ∷ gone))
    → due_with whole n (newer ++ (s ∷ gone)) ≡ due_with whole n (newer ++ (s ∷ [])) ++ stitched (rest_of s gone)
due_cut whole n [] s gone l =
    due_newest whole n s gone l ∙ ap (λ xs. newest_pieces whole n s s.mark ++ xs) (older_cut [] s gone l)
    ∙ sym (append_assoc (newest_pieces whole n s s.mark) (stitched (older (s ∷ []))) (stitched (rest_of s gone)))
    ∙ ap (λ xs. xs ++ stitched (rest_of s gone)) (sym (due_newest whole n s [] (linked_cut [] s gone l)))
due_cut whole n (x ∷ newer) s gone l =
    due_newest whole n x (newer ++ (s ∷ gone)) l ∙ ap (λ xs. newest_pieces whole n x x.mark ++ xs) (older_cut (x ∷ newer) s gone l)
    ∙ sym (append_assoc (newest_pieces whole n x x.mark) (stitched (older (x ∷ (newer ++ (s ∷ []))))) (stitched (rest_of s gone)))
    ∙ ap (λ xs. xs ++ stitched (rest_of s gone)) (sym (due_newest whole n x (newer ++ (s ∷ [])) (linked_cut (x ∷ newer) s gone l)))

-- ---- the newest run's length

capped_on : (mark : Option Mark) (d n : ℕ) → capped mark (d + n) ≡ capped mark (d + capped mark n)
capped_on None d n = refl
capped_on (Some m) d n = omega arith

extend : (mark old : Option Mark) (d n : ℕ) (b : Bool) → (b ≡ true → mark ≡ old) → capped mark (d + cond b n 0) ≡ capped mark (d + cond b (capped old n) 0)
extend mark old d n true h = capped_on mark d n ∙ ap (λ o. capped mark (d + capped o n)) (h refl)
extend mark old d n false h = refl

abbrev pub length_of : List Marked → ℕ
length_of history = capped (newest_mark history) (run_length history)

length_split : (m : Moment) (x : Marked) (front gone : List Marked) (entered : Option (List ℕ)) (segments : List Segment) → entered ≡ last_entered (x ∷ (front ++ gone)) → Linked (x ∷ (front ++ gone))
    → length_of (show_all m (x ∷ (front ++ gone)) segments) ≡ length_on m (x ∷ front) entered (length_of (x ∷ (front ++ gone))) segments
length_split m x front gone entered [] e l = refl
length_split m x front gone entered (s ∷ later) e l =
    let before = x ∷ (front ++ gone) in
    let here = marked_on m (x ∷ front) entered s later in
    let same : next_shown m before s later ≡ here = ap (λ l. record { segment = s; instant = segment_instant before s later; mark = next_mark m x.mark l (segment_instant before s later) }) (sym e) in
    let links : Linked (here ∷ before) = subst (λ h. Linked (h ∷ before)) same (link_step m before (segment_instant before s later) (newest_mark before) refl, l) in
    ap (λ h. length_of (show_all m (h ∷ before) later)) same
    ∙ length_split m here (x ∷ front) gone (entered_with here.mark entered) later (ap (entered_with here.mark) e ∙ sym (entered_cons here.mark before)) links
    ∙ ap (λ n. length_on m (here ∷ x ∷ front) (entered_with here.mark entered) n later) (extend here.mark x.mark s.duration (run_length before) (continues here before) links.0)

pub length_first : (m : Moment) (segments : List Segment) → length_of (show_all m [] segments) ≡ length_on m [] None 0 segments
length_first m [] = refl
length_first m (s ∷ later) =
    let here = next_shown m [] s later in
    length_split m here [] [] (entered_with here.mark None) later (sym (entered_cons here.mark [])) (alone_linked here)

pub length_behind : (m : Moment) (newer : List Marked) (s : Marked) (gone : List Marked) (segments : List Segment) → Linked (newer ++ (s ∷ gone))
    → length_of (show_all m (newer ++ (s ∷ gone)) segments) ≡ length_on m (newer ++ (s ∷ [])) (last_entered (newer ++ (s ∷ gone))) (length_of (newer ++ (s ∷ gone))) segments
length_behind m [] s gone segments l = length_split m s [] gone (last_entered (s ∷ gone)) segments refl l
length_behind m (x ∷ newer) s gone segments l =
    let list : (newer ++ (s ∷ [])) ++ gone ≡ newer ++ (s ∷ gone) = append_assoc newer (s ∷ []) gone in
    subst (λ h. length_of (show_all m (x ∷ h) segments) ≡ length_on m (x ∷ (newer ++ (s ∷ []))) (last_entered (x ∷ h)) (length_of (x ∷ h)) segments) list
    (length_split m x (newer ++ (s ∷ [])) gone (last_entered (x ∷ ((newer ++ (s ∷ [])) ++ gone))) segments refl (subst (λ h. Linked (x ∷ h)) (sym list) l))
