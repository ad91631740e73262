-- The window follows from the shown segments and the numbers of the first item.
use Rattle.std.proofs.Common.{◌≡◌, ℕ, ◌+◌, ◌≤◌, Bool, true, false, cond, List, [], ◌∷◌, ◌++◌, length, refl, ap, ◌∙◌, append_assoc, length-append, arith, suc}
use Rattle.std.proofs.lemmas.List.{append-nil, take-append-le}
use Rattle.std.proofs.lemmas.Bool.{ltb-true}
use Rattle.std.specs.Prelude.{Option, Some, None, nat_lt}
use Rattle.pod_store.specs.Marks.{Mark, Marked, newest_mark, continues, are_one}
use Rattle.stitcher.specs.Stitched.{Piece, Numbers, run_pieces, stitched, newest_place, numbers_at, next_stitched_numbers, steps_between, up_to, from_place, Item, numbered}
use Rattle.channel_spec.proofs.Numbered.{window_place}
use Rattle.channel_spec.specs.LiveLaws.{Linked}
use Rattle.stitcher.specs.Paced.{older, first_of_run}
use Rattle.channel_spec.proofs.Runs.{nothing_continues, newest_item, place_is}

-- the history whose items stand whole before those of the segments from `s` on
unfoldable pub rest_of : Marked → List Marked → List Marked
rest_of s gone = cond (continues s gone) (older gone) gone

-- ---- the list

pub run_fill : (r : Marked) (before : List Marked) → Linked (r ∷ before) → (first_of_run r before).mark ≡ r.mark
run_fill r [] h = refl
run_fill r (t ∷ before) h = grind (arith, run_fill t before h.1)

same_pod : (s f : Marked) (o : Option Mark) (g : Option Mark) → are_one o g ≡ true → run_pieces s o ≡ run_pieces f o
same_pod s f None g e = absurd (cc)
same_pod s f (Some h) g e = refl

one_list : (s : Marked) (gone : List Marked) → (continues s gone ≡ true → s.mark ≡ newest_mark gone) → Linked gone → (b : Bool) → continues s gone ≡ b
    → cond b [] (run_pieces s s.mark) ++ stitched gone ≡ run_pieces s s.mark ++ stitched (cond b (older gone) gone)
one_list s gone l h b e = grind (arith, nothing_continues, run_fill, newest_item, same_pod)

one_alone : (s : Marked) → stitched (s ∷ []) ≡ run_pieces s s.mark
one_alone s = grind (arith, nothing_continues, append-nil)

pub cut_list : (newer : List Marked) (s : Marked) (gone : List Marked) → Linked (newer ++ (s ∷ gone)) → stitched (newer ++ (s ∷ gone)) ≡ stitched (newer ++ (s ∷ [])) ++ stitched (rest_of s gone)
unfolding rest_of
cut_list [] s gone h = grind (arith, one_list, one_alone)
cut_list (x ∷ []) s gone h = grind (arith, append_assoc, cut_list [] s gone h.1)
cut_list (x ∷ y ∷ newer) s gone h = grind (arith, append_assoc, cut_list (y ∷ newer) s gone h.1)

-- ---- places

place_step : (b : Bool) (a c whole part : ℕ) → a ≡ c + part → whole ≡ whole → (k : ℕ) → k ≡ whole + part → cond b a k ≡ cond b c whole + part
place_step true a c whole part e f k g = e
place_step false a c whole part e f k g = g

pub newest_after : (newer : List Marked) (s : Marked) (gone : List Marked) → Linked (newer ++ (s ∷ gone))
    → newest_place (newer ++ (s ∷ gone)) ≡ newest_place (newer ++ (s ∷ [])) + length (stitched (rest_of s gone))
unfolding rest_of
newest_after [] s gone h = rw (nothing_continues s) (step (continues s gone))
  where
    step : (b : Bool) → cond b (newest_place gone) (length (stitched gone)) ≡ 0 + length (stitched (cond b (older gone) gone))
    step true = place_is gone ∙ omega arith
    step false = omega arith
newest_after (x ∷ []) s gone h =
    place_step (continues x (s ∷ [])) (newest_place (s ∷ gone)) (newest_place (s ∷ [])) (length (stitched (s ∷ []))) (length (stitched (rest_of s gone)))
    (newest_after [] s gone h.1) refl (length (stitched (s ∷ gone))) (ap length (cut_list [] s gone h.1) ∙ length-append (stitched (s ∷ [])) (stitched (rest_of s gone)))
newest_after (x ∷ y ∷ newer) s gone h =
    place_step (continues x (y ∷ newer)) (newest_place (y ∷ (newer ++ (s ∷ gone)))) (newest_place (y ∷ (newer ++ (s ∷ [])))) (length (stitched (y ∷ (newer ++ (s ∷ []))))) (length (stitched (rest_of s gone)))
    (newest_after (y ∷ newer) s gone h.1) refl (length (stitched (y ∷ (newer ++ (s ∷ gone)))))
    (ap length (cut_list (y ∷ newer) s gone h.1) ∙ length-append (stitched (y ∷ (newer ++ (s ∷ [])))) (stitched (rest_of s gone)))

pub window_after : (newer : List Marked) (s : Marked) (gone : List Marked) (number : ℕ) → Linked (newer ++ (s ∷ gone)) → s.segment.media_sequence ≤ number
    → window_place number (newer ++ (s ∷ gone)) ≡ window_place number (newer ++ (s ∷ [])) + length (stitched (rest_of s gone))
window_after [] s gone number l h = step (nat_lt number s.segment.media_sequence) refl
  where
    step : (b : Bool) → nat_lt number s.segment.media_sequence ≡ b
        → newest_place (cond b (up_to number gone) (s ∷ gone)) ≡ newest_place (cond b [] (s ∷ [])) + length (stitched (rest_of s gone))
    step true e = absurd (omega (arith, h, ltb-true number s.segment.media_sequence e))
    step false e = newest_after [] s gone l
window_after (x ∷ newer) s gone number l h = step_on x newer s gone number l (nat_lt number x.segment.media_sequence) (window_after newer s gone number l.1 h)
  where
    step_on : (x : Marked) (newer : List Marked) (s : Marked) (gone : List Marked) (number : ℕ) → Linked (x ∷ (newer ++ (s ∷ gone))) → (b : Bool)
        → newest_place (up_to number (newer ++ (s ∷ gone))) ≡ newest_place (up_to number (newer ++ (s ∷ []))) + length (stitched (rest_of s gone))
        → newest_place (cond b (up_to number (newer ++ (s ∷ gone))) (x ∷ (newer ++ (s ∷ gone)))) ≡ newest_place (cond b (up_to number (newer ++ (s ∷ []))) (x ∷ (newer ++ (s ∷ [])))) + length (stitched (rest_of s gone))
    step_on x newer s gone number l true k = k
    step_on x newer s gone number l false k = newest_after (x ∷ newer) s gone l

-- ---- numbers

numbers_over : (first : Numbers) (p : Piece) (front : List Piece) (q : Piece) (after : List Piece) → numbers_at first p (front ++ (q ∷ after)) ≡ numbers_at (numbers_at first q after) p (front ++ (q ∷ []))
numbers_over first p [] q after = refl
numbers_over first p (r ∷ front) q after = ap (λ (n : Numbers). next_stitched_numbers n (steps_between r p)) (numbers_over first r front q after)

abbrev pub item : Piece → Numbers → Item
item p n = record { piece = p; numbers = n }

-- the numbered pieces that stand before others
unfoldable pub onto : Numbers → List Piece → List Piece → List Item
onto first after [] = []
onto first after (p ∷ front) = item p (numbers_at first p (front ++ after)) ∷ onto first after front

pub numbered-onto : (first : Numbers) (front after : List Piece) → numbered first (front ++ after) ≡ onto first after front ++ numbered first after
unfolding onto
numbered-onto first [] after = refl
numbered-onto first (p ∷ front) after = ap (λ xs. item p (numbers_at first p (front ++ after)) ∷ xs) (numbered-onto first front after)

pub length-numbered : (first : Numbers) (pieces : List Piece) → length (numbered first pieces) ≡ length pieces
length-numbered first [] = refl
length-numbered first (p ∷ pieces) = ap suc (length-numbered first pieces)

pub onto_alone : (first : Numbers) (front : List Piece) (q : Piece) (after : List Piece) → onto first after (front ++ (q ∷ [])) ≡ numbered (numbers_at first q after) (front ++ (q ∷ []))
unfolding onto
onto_alone first [] q after = refl
onto_alone first (p ∷ front) q after = grind (arith, append_assoc, numbers_over, onto_alone first front q after)

pub from_over : (first : Numbers) (place : ℕ) (front : List Piece) (q : Piece) (after : List Piece)
    → from_place (place + length after) (numbered first ((front ++ (q ∷ [])) ++ after)) ≡ from_place place (numbered (numbers_at first q after) (front ++ (q ∷ [])))
from_over first place front q after = grind (arith, numbered-onto, onto_alone, length-append, length-numbered, take-append-le)

pub empty : (xs : List Piece) → length xs ≡ 0 → xs ≡ []
empty [] e = refl
empty (x ∷ xs) e = absurd (omega (arith, e))
