-- Two windows of one growing list.
use Rattle.std.proofs.Common.{◌≡◌, ℕ, ◌+◌, ◌-◌, ◌<◌, List, [], ◌∷◌, ◌++◌, take, length, reverse, refl, ap, sym, ◌∙◌, subst, suc, append_assoc, length-append, arith}
use Rattle.std.proofs.lemmas.List.{reverse-append}
use Rattle.std.proofs.lemmas.Grind.{reverse_onto}
use Rattle.std.proofs.Common.{◌⊎◌, inl, inr}
use Rattle.std.specs.List.{AllByRecursion}
use Rattle.std.proofs.Math.Seq.{take-append_seam}
use Rattle.std.proofs.Math.Decide.{dec_lt}
use Rattle.playlist_model.specs.Segments.{Segment}
use Rattle.stitcher.specs.Stitched.{Piece, Numbers, numbers_at, from_place}
use Rattle.channel_spec.proofs.Numbered.{numbered, numbered_segment}
use Rattle.playlist_model.specs.Same.{kept_parts}
use Rattle.channel_spec.specs.Successor.{first_number, end_number, AgreesWith}

-- ---- members

unfoldable pub In : {A : Type 0} → A → List A → Type 0
In x [] = ⊥
In x (y ∷ ys) = (x ≡ y) ⊎ In x ys

module _ {A : Type 0} where
  pub all_from : (P : A → Type 0) (xs : List A) → ((x : A) → In x xs → P x) → AllByRecursion P xs
  unfolding In
  all_from P [] f = tt
  all_from P (x ∷ xs) f = (f x (inl refl), all_from P xs (λ y h. f y (inr h)))

  pub in_after : (x : A) (xs ys : List A) → In x ys → In x (xs ++ ys)
  unfolding In
  in_after x [] ys h = h
  in_after x (z ∷ xs) ys h = inr (in_after x xs ys h)

  pub in_front : (x : A) (xs ys : List A) → In x xs → In x (xs ++ ys)
  unfolding In
  in_front x [] ys h = absurd h
  in_front x (z ∷ xs) ys (inl e) = inl e
  in_front x (z ∷ xs) ys (inr h) = inr (in_front x xs ys h)

  pub in_either : (x : A) (xs ys : List A) → In x (xs ++ ys) → In x xs ⊎ In x ys
  unfolding In
  in_either x [] ys h = inr h
  in_either x (z ∷ xs) ys (inl e) = inl (inl e)
  in_either x (z ∷ xs) ys (inr h) = elim (in_either x xs ys h) [ inl a ↦ inl (inr a) | inr b ↦ inr b ]

  pub reverse-cons : (x : A) (xs : List A) → reverse (x ∷ xs) ≡ reverse xs ++ (x ∷ [])
  reverse-cons x xs = reverse_onto xs x []

  pub in_reverse : (x : A) (xs : List A) → In x (reverse xs) → In x xs
  unfolding In
  in_reverse x [] h = h
  in_reverse x (y ∷ xs) h =
      elim (in_either x (reverse xs) (y ∷ []) (subst (λ ys. In x ys) (reverse-cons y xs) h)) [
        | inl a ↦ inr (in_reverse x xs a)
        | inr b ↦ elim b [ inl e ↦ inl e | inr none ↦ absurd none ]
      ]

  pub length-reverse : (xs : List A) → length (reverse xs) ≡ length xs
  length-reverse [] = refl
  length-reverse (x ∷ xs) = ap length (reverse-cons x xs) ∙ omega (arith, length-append (reverse xs) (x ∷ []), length-reverse xs)

-- a list at one of its places, counted from its end
pub record Split {A : Type 0} (place : ℕ) (xs : List A) : Type 0 where
  pub front : List A
  pub here : A
  pub after : List A
  pub is : xs ≡ front ++ (here ∷ after)
  pub at : length after ≡ place

module _ {A : Type 0} where
  split_step : (place : ℕ) (x : A) (xs : List A) → place < length (x ∷ xs) → (place < length xs → Split place xs) → Dec (place < length xs) → Split place (x ∷ xs)
  split_step place x xs h rec (yes p) = let k = rec p in record { front = x ∷ k.front; here = k.here; after = k.after; is = ap (λ ys. x ∷ ys) k.is; at = k.at }
  split_step place x xs h rec (no n) = record { front = []; here = x; after = xs; is = refl; at = omega (arith, h, n) }

  pub split_at : (place : ℕ) (xs : List A) → place < length xs → Split place xs
  split_at place [] h = absurd (omega (arith, h))
  split_at place (x ∷ xs) h = split_step place x xs h (split_at place xs) (dec_lt place (length xs))

-- ---- numbers

pub media_at : (first : Numbers) (p : Piece) (before : List Piece) → (numbers_at first p before).media_sequence ≡ first.media_sequence + length before
media_at first p [] = omega arith
media_at first p (q ∷ before) = omega (arith, media_at first q before)

-- the numbered pieces that stand before others
unfoldable pub onto : Numbers → List Piece → List Piece → List Segment
onto first after [] = []
onto first after (p ∷ front) = numbered_segment p (numbers_at first p (front ++ after)) ∷ onto first after front

pub numbered-onto : (first : Numbers) (front after : List Piece) → numbered first (front ++ after) ≡ onto first after front ++ numbered first after
unfolding onto
numbered-onto first [] after = refl
numbered-onto first (p ∷ front) after = grind (arith, numbered-onto first front after)

pub length-onto : (first : Numbers) (front after : List Piece) → length (onto first after front) ≡ length front
unfolding onto
length-onto first [] after = refl
length-onto first (p ∷ front) after = ap suc (length-onto first front after)

pub length-numbered : (first : Numbers) (pieces : List Piece) → length (numbered first pieces) ≡ length pieces
length-numbered first [] = refl
length-numbered first (p ∷ pieces) = ap suc (length-numbered first pieces)

-- the window from the piece `q` on, the oldest first
unfoldable pub window_of : Numbers → List Piece → Piece → List Piece → List Segment
window_of first front q after = numbered_segment q (numbers_at first q after) ∷ reverse (onto first (q ∷ after) front)

pub window_is : (first : Numbers) (place : ℕ) (front : List Piece) (q : Piece) (after : List Piece) → length after ≡ place
    → reverse (from_place place (numbered first (front ++ (q ∷ after)))) ≡ window_of first front q after
unfolding window_of
window_is first place front q after e =
    let here = numbered_segment q (numbers_at first q after) in
    let top = onto first (q ∷ after) front in
    let whole : numbered first (front ++ (q ∷ after)) ≡ (top ++ (here ∷ [])) ++ numbered first after
    = numbered-onto first front (q ∷ after) ∙ sym (append_assoc top (here ∷ []) (numbered first after)) in
    let size : length (numbered first (front ++ (q ∷ after))) - place ≡ length (top ++ (here ∷ []))
    = omega (arith, e, ap length whole, length-append (top ++ (here ∷ [])) (numbered first after), length-numbered first after) in
    let part : from_place place (numbered first (front ++ (q ∷ after))) ≡ top ++ (here ∷ [])
    = ap (λ n. take n (numbered first (front ++ (q ∷ after)))) size ∙ ap (λ xs. take (length (top ++ (here ∷ []))) xs) whole ∙ take-append_seam (top ++ (here ∷ [])) (numbered first after) in
    ap reverse part ∙ reverse-append top (here ∷ [])

pub length-window : (first : Numbers) (front : List Piece) (q : Piece) (after : List Piece) → length (window_of first front q after) ≡ length front + 1
unfolding window_of
length-window first front q after = omega (arith, length-reverse (onto first (q ∷ after) front), length-onto first front (q ∷ after))

pub first_of_window : (first : Numbers) (front : List Piece) (q : Piece) (after : List Piece) → first_number (window_of first front q after) ≡ first.media_sequence + length after
unfolding window_of
first_of_window first front q after = media_at first q after

pub end_of_window : (first : Numbers) (front : List Piece) (q : Piece) (after : List Piece) → end_number (window_of first front q after) ≡ first.media_sequence + length (front ++ (q ∷ after))
end_of_window first front q after = grind (arith, first_of_window, length-window, length-append)

-- ---- what stands in a window stands in the list

pub in_window : (first : Numbers) (front : List Piece) (q : Piece) (after : List Piece) (s : Segment) → In s (window_of first front q after) → In s (numbered first (front ++ (q ∷ after)))
unfolding window_of In
in_window first front q after s (inl e) =
    subst (λ xs. In s xs) (sym (numbered-onto first front (q ∷ after))) (in_after s (onto first (q ∷ after) front) (numbered first (q ∷ after)) (inl e))
in_window first front q after s (inr h) =
    subst (λ xs. In s xs) (sym (numbered-onto first front (q ∷ after)))
    (in_front s (onto first (q ∷ after) front) (numbered first (q ∷ after)) (in_reverse s (onto first (q ∷ after) front) h))

in_below : (first : Numbers) (pieces : List Piece) (s : Segment) → In s (numbered first pieces) → s.media_sequence < first.media_sequence + length pieces
unfolding In
in_below first [] s h = absurd h
in_below first (p ∷ before) s (inl e) = omega (arith, ap (λ (t : Segment). t.media_sequence) e, media_at first p before)
in_below first (p ∷ before) s (inr h) = omega (arith, in_below first before s h)

-- a media number stands once
only_one : (first : Numbers) (pieces : List Piece) (s t : Segment) → In s (numbered first pieces) → In t (numbered first pieces) → s.media_sequence ≡ t.media_sequence → s ≡ t
unfolding In
only_one first [] s t h k e = absurd h
only_one first (p ∷ before) s t (inl a) (inl b) e = a ∙ sym b
only_one first (p ∷ before) s t (inl a) (inr k) e = absurd (omega (arith, e, ap (λ (u : Segment). u.media_sequence) a, media_at first p before, in_below first before t k))
only_one first (p ∷ before) s t (inr h) (inl b) e = absurd (omega (arith, e, ap (λ (u : Segment). u.media_sequence) b, media_at first p before, in_below first before s h))
only_one first (p ∷ before) s t (inr h) (inr k) e = only_one first before s t h k e

-- segments of one number are the same in two windows of a list that grew
pub windows_agree : (first : Numbers) (front : List Piece) (q : Piece) (after : List Piece) (later : List Piece) (p : Piece) (before : List Piece) (more : List Piece)
    → later ++ (p ∷ before) ≡ more ++ (front ++ (q ∷ after))
    → AllByRecursion (AgreesWith (window_of first later p before)) (window_of first front q after)
windows_agree first front q after later p before more e =
    all_from (AgreesWith (window_of first later p before)) (window_of first front q after) (λ s h.
    all_from (λ (t : Segment). s.media_sequence ≡ t.media_sequence → kept_parts s ≡ kept_parts t) (window_of first later p before) (λ t k same.
    let all = numbered first (more ++ (front ++ (q ∷ after))) in
    let old : In s all = subst (λ xs. In s xs) (sym (numbered-onto first more (front ++ (q ∷ after))))
    (in_after s (onto first (front ++ (q ∷ after)) more) (numbered first (front ++ (q ∷ after))) (in_window first front q after s h)) in
    let new : In t all = subst (λ (ps : List Piece). In t (numbered first ps)) e (in_window first later p before t k) in
    ap kept_parts (only_one first (more ++ (front ++ (q ∷ after))) s t old new same)))
