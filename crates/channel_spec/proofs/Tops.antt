-- The newest piece of the stitched list.
use Rattle.std.proofs.Common.{◌≡◌, inl, inr, ◌+◌, ◌-◌, ◌<◌, ◌≤◌, Bool, true, false, cond, List, [], ◌∷◌, ◌++◌, map, length, reverse, refl, ap, sym, ◌∙◌, subst, append_assoc, arith}
use Rattle.std.specs.Prelude.{Option, Some, None}
use Rattle.std.specs.List.{AllByRecursion}
use Rattle.pod_store.specs.Pods.{Ad, PodSegment}
use Rattle.pod_store.specs.Marks.{Mark, Marked, newest_mark, continues, are_one}
use Rattle.stitcher.specs.Stitched.{Piece, is_kept, ad_piece, ad_pieces, pieces_of_ads, pod_pieces, kept_piece, run_pieces, stitched, steps_between}
use Rattle.channel_spec.proofs.Growth.{stitched_grows}
use Rattle.channel_spec.proofs.Windows.{In, in_either, in_after, in_reverse, split_at, length-reverse}
use Rattle.channel_spec.proofs.Fills.{IsGood, IsAlike, run_stands}
use Rattle.channel_spec.proofs.Risen.{newest_discontinuity}
use Rattle.channel_spec.proofs.Succession.{Above}

later_not_kept : (mark : Mark) (ad : Ad) (segments : List PodSegment) (p : Piece) → In p (map (ad_piece mark false ad) segments) → is_kept p ≡ false
unfolding In
later_not_kept mark ad [] p h = absurd h
later_not_kept mark ad (s ∷ segments) p (inl h) = ap is_kept h
later_not_kept mark ad (s ∷ segments) p (inr h) = later_not_kept mark ad segments p h

ad_not_kept : (mark : Mark) (ad : Ad) (segments : List PodSegment) (p : Piece) → In p (ad_pieces mark ad segments) → is_kept p ≡ false
unfolding In
ad_not_kept mark ad [] p h = absurd h
ad_not_kept mark ad (s ∷ segments) p (inl h) = ap is_kept h
ad_not_kept mark ad (s ∷ segments) p (inr h) = later_not_kept mark ad segments p h

ads_not_kept : (mark : Mark) (ads : List Ad) (p : Piece) → In p (pieces_of_ads mark ads) → is_kept p ≡ false
unfolding In
ads_not_kept mark [] p h = absurd h
ads_not_kept mark (ad ∷ ads) p h = elim (in_either p (ad_pieces mark ad ad.segments) (pieces_of_ads mark ads) h) [ inl a ↦ ad_not_kept mark ad ad.segments p a | inr b ↦ ads_not_kept mark ads p b ]

pub pod_not_kept : (mark : Mark) (p : Piece) → In p (reverse (pod_pieces mark)) → is_kept p ≡ false
pod_not_kept mark p h = ads_not_kept mark mark.pod.ads p (in_reverse p (pod_pieces mark) h)

top_in : (xs ys : List Piece) (p : Piece) (rest : List Piece) → 0 < length xs → xs ++ ys ≡ p ∷ rest → In p xs
unfolding In
top_in [] ys p rest h e = absurd (omega (arith, h))
top_in (x ∷ xs) ys p rest h e = let same : p ≡ x = cc in inl same

marked_step : (f : Mark) (g : Option Mark) (before : List Marked) (p : Piece) (rest : List Piece) → 0 < length (reverse (pod_pieces f))
    → cond (are_one (Some f) g) [] (reverse (pod_pieces f)) ++ stitched before ≡ p ∷ rest
    → ((k : Mark) → g ≡ Some k → stitched before ≡ p ∷ rest → is_kept p ≡ false) → is_kept p ≡ false
marked_step f g before p rest h e rec = grind (arith, pod_not_kept, top_in, reverse)

pub run_some : (m : Bool) (f : Mark) → IsGood m (Some f) → 0 < length (reverse (pod_pieces f))
unfolding IsGood
run_some m f g = omega (arith, length-reverse (pod_pieces f), g.some)

-- after a marked segment the list ends in a pod
marked_top : (m : Bool) (history : List Marked) (f : Mark) (p : Piece) (rest : List Piece) → AllByRecursion (IsAlike m) history → newest_mark history ≡ Some f → stitched history ≡ p ∷ rest → is_kept p ≡ false
marked_top m [] f p rest a e d = absurd (cc)
marked_top m (s ∷ before) f p rest a e d =
    let good : IsGood m (Some f) = subst (λ (o : Option Mark). IsGood m o) e a.0.mark in
    let whole : cond (are_one (Some f) (newest_mark before)) [] (reverse (pod_pieces f)) ++ stitched before ≡ p ∷ rest
    = subst (λ (o : Option Mark). cond (are_one o (newest_mark before)) [] (run_pieces s o) ++ stitched before ≡ p ∷ rest) e d in
    marked_step f (newest_mark before) before p rest (run_some m f good) whole (λ k same here. marked_top m before k p rest a.1 same here)

-- a kept piece at its end is the newest segment
top_step : (m : Bool) (s : Marked) (before : List Marked) (p : Piece) (rest : List Piece) → AllByRecursion (IsAlike m) (s ∷ before) → stitched (s ∷ before) ≡ p ∷ rest → is_kept p ≡ true
    → (o : Option Mark) → s.mark ≡ o → p.segment.discontinuity_sequence ≡ s.segment.discontinuity_sequence
top_step m s before p rest a d k None e =
    let whole : kept_piece s ∷ stitched before ≡ p ∷ rest = subst (λ (o : Option Mark). cond (are_one o (newest_mark before)) [] (run_pieces s o) ++ stitched before ≡ p ∷ rest) e d in
    let same : p ≡ kept_piece s = cc in ap (λ (x : Piece). x.segment.discontinuity_sequence) same
top_step m s before p rest a d k (Some f) e = let no = marked_top m (s ∷ before) f p rest a e d in absurd (cc)

pub top_kept : (m : Bool) (history : List Marked) (p : Piece) (rest : List Piece) → AllByRecursion (IsAlike m) history → stitched history ≡ p ∷ rest → is_kept p ≡ true
    → p.segment.discontinuity_sequence ≡ newest_discontinuity history
top_kept m [] p rest a d k = absurd (cc)
top_kept m (s ∷ before) p rest a d k = top_step m s before p rest a d k s.mark refl

-- ---- the first piece of a segment that is no part of the run before

few : (p q : Piece) → (is_kept p ≡ true → is_kept q ≡ true → q.segment.discontinuity_sequence ≤ p.segment.discontinuity_sequence + 1000) → (a b c : Bool) → is_kept p ≡ a → is_kept q ≡ b → q.first_of_ad ≡ c
    → cond b (cond a (q.segment.discontinuity_sequence - p.segment.discontinuity_sequence) 1) (cond c 1 0) ≤ 1000
few p q h true true c x y z = let k = h x y in omega (arith, k)
few p q h false true c x y z = omega arith
few p q h a false true x y z = omega arith
few p q h a false false x y z = omega arith

pub run_first : (m : Bool) (x : Marked) (fill : Option Mark) (history : List Marked) (q : Piece) → AllByRecursion (IsAlike m) history → In q (run_pieces x fill)
    → x.segment.discontinuity_sequence ≤ newest_discontinuity history + 1000 → (p : Piece) (rest : List Piece) → stitched history ≡ p ∷ rest → steps_between p q ≤ 1000
unfolding In
run_first m x fill history q a h n p rest d = grind (arith, few, top_kept, pod_not_kept)

pub above : (m : Bool) (later : List Marked) (x : Marked) (history : List Marked) → IsAlike m x → AllByRecursion (IsAlike m) history → continues x history ≡ false
    → x.segment.discontinuity_sequence ≤ newest_discontinuity history + 1000 → Above (stitched (later ++ (x ∷ history))) (stitched history)
unfolding In
above m later x history k a e n =
    let run = run_pieces x x.mark in
    let here : stitched (x ∷ history) ≡ run ++ stitched history = ap (λ b. cond b [] run ++ stitched history) e in
    let s = split_at 0 run (run_stands m x x.mark k.init_section k.mark).some in
    let g = stitched_grows later (x ∷ history) in
    let none : s.after ≡ [] = empty s.after s.at in
    let part : run ≡ s.front ++ (s.here ∷ []) = s.is ∙ ap (λ xs. s.front ++ (s.here ∷ xs)) none in
    record {
      front = g.0 ++ s.front;
      here = s.here;
      is = g.1 ∙ ap (λ xs. g.0 ++ xs) (here ∙ ap (λ xs. xs ++ stitched history) part ∙ append_assoc s.front (s.here ∷ []) (stitched history)) ∙ sym (append_assoc g.0 s.front (s.here ∷ stitched history));
      near = run_first m x x.mark history s.here a (subst (λ xs. In s.here xs) (sym s.is) (in_after s.here s.front (s.here ∷ s.after) (inl refl))) n;
    }
  where
    empty : (xs : List Piece) → length xs ≡ 0 → xs ≡ []
    empty [] e = refl
    empty (x ∷ xs) e = absurd (omega (arith, e))
