-- The segments that a channel holds, the oldest first, and what is kept, the newest first.
use Rattle.std.proofs.Common.{◌≡◌, ℕ, ◌+◌, ◌-◌, ◌<◌, ◌≤◌, ℤ, Bool, true, false, cond, min, zero, suc, List, [], ◌∷◌, ◌++◌, map, length, drop, refl, ap, sym, ◌∙◌, subst, arith, length-append}
use Rattle.std.specs.Prelude.{Option, None, filter, nat_lt}
use Rattle.std.specs.List.{AllByRecursion}
use Rattle.std.proofs.lemmas.Bool.{ltb-true, ltb-false}
use Rattle.std.proofs.lemmas.Bool.Decides.{nat_tests}
use Rattle.std.proofs.lemmas.List.{length-drop}
use Rattle.std.proofs.Math.Decide.{dec_le}
use mathlib.Core.List.{reverse_aux}
use Rattle.playlist_model.specs.Segments.{Segment}
use Rattle.pod_store.specs.Marks.{Marked, newest_mark, mark_in}
use Rattle.playlist_model.specs.Instants.{ends_at, instants_after}
use Rattle.pod_store.specs.Store.{Store}
use Rattle.stitcher.specs.declared.marked.MarkedSegment.{MarkedSegment as Held}
use Rattle.stitcher.specs.StitchedSegments.{meant, IsDecided, AreDecided}
use Rattle.stitcher.specs.Inner.Making.{mark_after}
use Rattle.channel_spec.specs.Sound.{RiseFrom}
use Rattle.channel_spec.specs.Successor.{first_number}
use Rattle.channel_window.specs.Checked.{AreContiguous}
use Rattle.channel_spec.specs.Marking.{Moment, newest_end, is_new}
use Rattle.channel_spec.specs.Kept.{show_on, length_on}
use Rattle.channel_window.specs.Marking.{Hint, history_in, mark_on, length_after}
use Rattle.channel_window.specs.Inner.Listed.{IsTail, is_after}
use Rattle.channel_window.proofs.Marked.{marks_are_shown, lengths_are_kept}

-- ---- one list after another

onto : (store : Store) (xs ys : List Held) (acc : List Marked) → reverse_aux (map (meant store) (xs ++ ys)) acc ≡ reverse_aux (map (meant store) ys) (reverse_aux (map (meant store) xs) acc)
onto store [] ys acc = refl
onto store (x ∷ xs) ys acc = onto store xs ys (meant store x ∷ acc)

pub seen_after : (store : Store) (xs ys : List Held) → history_in store (xs ++ ys) ≡ reverse_aux (map (meant store) ys) (history_in store xs)
seen_after store xs ys = onto store xs ys []

-- the newest of some segments
pub last_seen : (store : Store) (shown rest : List Held) (m : Held) → shown ≡ rest ++ m ∷ [] → history_in store shown ≡ meant store m ∷ history_in store rest
last_seen store shown rest m e = ap (history_in store) e ∙ seen_after store rest (m ∷ [])

empty : (xs : List Held) → length xs ≡ 0 → xs ≡ []
empty [] h = refl
empty (x ∷ xs) h = absurd (cc)

pub none_seen : (store : Store) (shown : List Held) → length shown ≡ 0 → history_in store shown ≡ []
none_seen store shown h = ap (history_in store) (empty shown h)

pub all_after : (P : Held → Type 0) (xs ys : List Held) → AllByRecursion P (xs ++ ys) → AllByRecursion P xs × AllByRecursion P ys
all_after P [] ys h = (tt, h)
all_after P (x ∷ xs) ys h = let k = all_after P xs ys h.1 in ((h.0, k.0), k.1)

both : (P : Held → Type 0) (xs ys : List Held) → AllByRecursion P xs → AllByRecursion P ys → AllByRecursion P (xs ++ ys)
both P [] ys h k = k
both P (x ∷ xs) ys h k = (h.0, both P xs ys h.1 k)

-- ---- the newest segment

pub newest_seen : (store : Store) (shown rest : List Held) (m : Held) → shown ≡ rest ++ m ∷ [] → newest_mark (history_in store shown) ≡ mark_in store m.mark
newest_seen store shown rest m e = ap newest_mark (last_seen store shown rest m e)

pub newest_decided : (store : Store) (shown rest : List Held) (m : Held) → shown ≡ rest ++ m ∷ [] → AreDecided store shown → IsDecided store m.mark
newest_decided store shown rest m e d = (all_after (λ (h : Held). IsDecided store h.mark) rest (m ∷ []) (subst (AreDecided store) e d)).1.0

-- its mark
pub last_mark : (shown rest : List Held) (m : Held) → shown ≡ rest ++ m ∷ [] → mark_after None shown ≡ m.mark
last_mark shown rest m e = ap (mark_after None) e ∙ after rest None
  where
    after : (front : List Held) (previous : Option (List ℕ)) → mark_after previous (front ++ m ∷ []) ≡ m.mark
    after [] previous = refl
    after (x ∷ front) previous = after front x.mark

pub no_mark : (shown : List Held) → length shown ≡ 0 → mark_after None shown ≡ None
no_mark shown h = ap (mark_after None) (empty shown h)

pub newest_ends : (store : Store) (shown rest : List Held) (m : Held) → shown ≡ rest ++ m ∷ [] → newest_end (history_in store shown) ≡ ends_at m.instant m.segment.duration
newest_ends store shown rest m e = ap newest_end (last_seen store shown rest m e)

-- ---- the fresh segments

over : (n k : ℕ) → n < k → nat_lt n k ≡ true
over n k h = grind (arith, nat_tests)

pub rest_after : (n k : ℕ) (segments : List Segment) → n < k → RiseFrom k segments → filter (is_after n) segments ≡ segments
rest_after n k [] h r = refl
rest_after n k (s ∷ later) h r = grind (arith, rest_after n (k + 1) later (omega (arith, h)) r.1)

pub drop_all : {A : Type 0} (n : ℕ) (xs : List A) → length xs ≤ n → drop n xs ≡ []
drop_all zero [] h = refl
drop_all (suc n) [] h = refl
drop_all zero (x ∷ xs) h = absurd (omega (arith, h))
drop_all (suc n) (x ∷ xs) h = drop_all n xs (omega (arith, h))

-- those after a number, if they rise by one
after_from : (n k : ℕ) (segments : List Segment) → RiseFrom k segments → filter (is_after n) segments ≡ drop ((n + 1) - k) segments
after_from n k [] r = sym (drop_all ((n + 1) - k) [] (omega arith))
after_from n k (s ∷ later) r = step (nat_lt n s.media_sequence) refl (after_from n (k + 1) later r.1)
  where
    step : (b : Bool) → nat_lt n s.media_sequence ≡ b → filter (is_after n) later ≡ drop ((n + 1) - (k + 1)) later
        → cond b (s ∷ filter (is_after n) later) (filter (is_after n) later) ≡ drop ((n + 1) - k) (s ∷ later)
    step true e rec =
        let above = ltb-true n s.media_sequence e in
        let none : (n + 1) - k ≡ 0 = omega (arith, above, r.0) in
        ap (λ xs. s ∷ xs) (rest_after n (k + 1) later (omega (arith, above, r.0)) r.1) ∙ sym (ap (λ m. drop m (s ∷ later)) none)
    step false e rec =
        let one : (n + 1) - k ≡ suc ((n + 1) - (k + 1)) = omega (arith, ltb-false n s.media_sequence e, r.0) in
        rec ∙ sym (ap (λ m. drop m (s ∷ later)) one)

pub drop_min : {A : Type 0} (n k : ℕ) (xs : List A) → k ≡ min n (length xs) → drop k xs ≡ drop n xs
drop_min n k xs e = grind (arith, dec_le, drop_all)

pub after_at : (n first place : ℕ) (segments : List Segment) → first ≡ first_number segments → AreContiguous segments → first ≤ n → place ≡ min ((n - first) + 1) (length segments) → drop place segments ≡ filter (is_after n) segments
after_at n first place segments f r h e =
    drop_min ((n + 1) - first_number segments) place segments (omega (arith, e, f, h)) ∙ sym (after_from n (first_number segments) segments r)

pub same_new : (store : Store) (shown rest : List Held) (m : Held) (segments : List Segment) → shown ≡ rest ++ m ∷ [] → filter (is_new (history_in store shown)) segments ≡ filter (is_after m.segment.media_sequence) segments
same_new store shown rest m segments e = ap (λ (before : List Marked). filter (is_new before) segments) (last_seen store shown rest m e)

every_new : (segments : List Segment) → filter (is_new []) segments ≡ segments
every_new [] = refl
every_new (s ∷ later) = ap (λ xs. s ∷ xs) (every_new later)

pub all_new : (store : Store) (shown : List Held) (segments : List Segment) → length shown ≡ 0 → filter (is_new (history_in store shown)) segments ≡ segments
all_new store shown segments h = ap (λ (before : List Marked). filter (is_new before) segments) (none_seen store shown h) ∙ every_new segments

dropped : (front rest : List Segment) → drop (length front) (front ++ rest) ≡ rest
dropped [] rest = refl
dropped (x ∷ front) rest = dropped front rest

-- what stands after others is the end
pub tail_of : (segments front rest : List Segment) → segments ≡ front ++ rest → IsTail rest segments
tail_of segments front rest e =
    let n : length segments - length rest ≡ length front = let k = ap length e ∙ length-append front rest in omega (arith, k) in
    ap (λ n. drop n segments) n ∙ (ap (drop (length front)) e ∙ dropped front rest)

pub tail_at : (place : ℕ) (segments : List Segment) → place ≤ length segments → IsTail (drop place segments) segments
tail_at place segments h = grind (arith, length-drop)

-- and so is the whole
pub tail_whole : (segments : List Segment) → IsTail segments segments
tail_whole segments = tail_of segments [] segments refl

-- ---- the list

module _ (m : Moment) (shown : List Held) (newest entered : Option (List ℕ)) (hints : List Hint) (segments fresh : List Segment) (ended : Option ℤ) (begun : List (Option ℤ)) (marked list : List Held)
    (mark_is : newest_mark (history_in m.store shown) ≡ mark_in m.store newest) (newest_is : IsDecided m.store newest) (decided : AreDecided m.store shown)
    (ended_is : ended ≡ newest_end (history_in m.store shown)) (fresh_is : fresh ≡ filter (is_new (history_in m.store shown)) segments) (begun_is : begun ≡ instants_after ended fresh)
    (marked_is : marked ≡ mark_on m newest entered hints fresh begun) (list_is : list ≡ shown ++ marked) where
  laid : marked ≡ mark_on m newest entered hints fresh (instants_after (newest_end (history_in m.store shown)) fresh)
  laid = marked_is ∙ ap (mark_on m newest entered hints fresh) (begun_is ∙ ap (λ e. instants_after e fresh) ended_is)

  pub is_listed : history_in m.store list ≡ show_on m (history_in m.store shown) entered (filter (is_new (history_in m.store shown)) segments)
  is_listed =
      ap (history_in m.store) list_is ∙ seen_after m.store shown marked
      ∙ ap (λ held. reverse_aux (map (meant m.store) held) (history_in m.store shown)) laid
      ∙ (marks_are_shown m newest entered hints (history_in m.store shown) fresh newest_is mark_is).0
      ∙ ap (show_on m (history_in m.store shown) entered) fresh_is

  pub is_decided : AreDecided m.store list
  is_decided =
      subst (AreDecided m.store) (sym list_is)
      (both (λ (h : Held). IsDecided m.store h.mark) shown marked decided
      (subst (AreDecided m.store) (sym laid) (marks_are_shown m newest entered hints (history_in m.store shown) fresh newest_is mark_is).1))

  pub is_long : (before length : ℕ) → length ≡ length_after m.store newest before marked → length ≡ length_on m (history_in m.store shown) entered before (filter (is_new (history_in m.store shown)) segments)
  is_long before length e =
      e ∙ ap (length_after m.store newest before) laid
      ∙ lengths_are_kept m newest entered hints (history_in m.store shown) before fresh newest_is mark_is
      ∙ ap (length_on m (history_in m.store shown) entered before) fresh_is
