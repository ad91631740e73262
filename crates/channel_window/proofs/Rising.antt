-- The segments that a channel holds, whose numbers rise by one: where a number begins among them.
use Rattle.std.proofs.Common.{◌≡◌, ℕ, ℤ, ◌+◌, ◌-◌, ◌≤◌, Bool, true, false, cond, suc, List, [], ◌∷◌, ◌++◌, map, min, take, drop, length, reverse, refl, ap, sym, ◌∙◌, subst, arith}
use Rattle.std.specs.Prelude.{Option, Some, slice_get, filter, nat_lt, nat_le}
use Rattle.std.proofs.lemmas.Bool.{ltb-true, ltb-false, leb-true, leb-false}
use Rattle.std.proofs.Math.Decide.{dec_le}
use Rattle.std.proofs.lemmas.List.{take-append-drop, take_all, take_at, length-map, length-reverse, length-drop, map-append, reverse-append}
use Rattle.std.proofs.Math.Seq.{drop-append_seam}
use mathlib.Core.List.{reverse_aux}
use Rattle.playlist_model.specs.Segments.{Segment}
use Rattle.playlist_model.specs.LookBack.{or_earlier}
use Rattle.pod_store.specs.Marks.{Marked}
use Rattle.pod_store.specs.Store.{Store}
use Rattle.stitcher.specs.Stitched.{up_to}
use Rattle.stitcher.specs.declared.marked.MarkedSegment.{MarkedSegment as Held}
use Rattle.stitcher.specs.StitchedSegments.{meant}
use Rattle.channel_spec.specs.Live.{gone_before}
use Rattle.channel_spec.specs.Kept.{shown_from}
use Rattle.channel_spec.specs.Marking.{Moment, is_new}
use Rattle.channel_spec.specs.Sound.{RiseFrom}
use Rattle.channel_spec.specs.Successor.{first_number}
use Rattle.channel_spec.proofs.Risen.{FallFrom, are_past}
use Rattle.channel_window.specs.Checked.{AreContiguous}
use Rattle.channel_window.specs.Marking.{Hint, history_in, mark_on, next_id}
use Rattle.channel_window.proofs.Listed.{drop_all, drop_min}
use Rattle.channel_window.specs.Listed.{AreRising, RiseByOne, RisesOn}

-- ---- parts of lists that are longer than they are

drop_less : {A : Type 0} (n : ℕ) (xs : List A) → drop n xs ≡ drop (min n (length xs)) xs
drop_less n xs = sym (drop_min n (min n (length xs)) xs refl)

take_less : {A : Type 0} (n : ℕ) (xs : List A) → take n xs ≡ take (min n (length xs)) xs
take_less n xs = grind (arith, dec_le, min, take_all)

-- ---- as they are meant

fall_on : (store : Store) (n : ℕ) (list : List Held) (before : List Marked) → RiseByOne n list → FallFrom n before → FallFrom (n + length list) (reverse_aux (map (meant store) list) before)
fall_on store n [] before r f = subst (λ k. FallFrom k before) (omega arith) f
fall_on store n (m ∷ later) before r f =
    let next : FallFrom (n + 1) (meant store m ∷ before) = (ap (λ k. k + 1) r.0, subst (λ k. FallFrom k before) (sym r.0) f) in
    subst (λ k. FallFrom k (reverse_aux (map (meant store) later) (meant store m ∷ before))) (omega arith) (fall_on store (n + 1) later (meant store m ∷ before) r.1 next)

pub falls : (store : Store) (n : ℕ) (list : List Held) → RiseByOne n list → FallFrom (n + length list) (history_in store list)
falls store n list r = fall_on store n list [] r tt

-- ---- where a number begins among those that fall

gone_drop : (number end : ℕ) (seen : List Marked) → FallFrom end seen → gone_before number seen ≡ drop (end - number) seen
gone_drop number end [] f = sym (drop_all (end - number) [] (omega arith))
gone_drop number end (s ∷ before) f = step (nat_le number s.segment.media_sequence) refl (gone_drop number s.segment.media_sequence before f.1)
  where
    step : (b : Bool) → nat_le number s.segment.media_sequence ≡ b → gone_before number before ≡ drop (s.segment.media_sequence - number) before
        → cond b (gone_before number before) (s ∷ before) ≡ drop (end - number) (s ∷ before)
    step true e rec = let k : end - number ≡ suc (s.segment.media_sequence - number) = omega (arith, leb-true number s.segment.media_sequence e, f.0) in rec ∙ sym (ap (λ n. drop n (s ∷ before)) k)
    step false e rec = let k : end - number ≡ 0 = omega (arith, leb-false number s.segment.media_sequence e, f.0) in sym (ap (λ n. drop n (s ∷ before)) k)

shown_take : (number end : ℕ) (seen : List Marked) → FallFrom end seen → shown_from number seen ≡ take (end - number) seen
shown_take number end [] f = sym (take_all (end - number) [] (omega arith))
shown_take number end (s ∷ before) f = step (nat_le number s.segment.media_sequence) refl (shown_take number s.segment.media_sequence before f.1)
  where
    step : (b : Bool) → nat_le number s.segment.media_sequence ≡ b → shown_from number before ≡ take (s.segment.media_sequence - number) before
        → cond b (s ∷ shown_from number before) [] ≡ take (end - number) (s ∷ before)
    step true e rec =
        let k : end - number ≡ suc (s.segment.media_sequence - number) = omega (arith, leb-true number s.segment.media_sequence e, f.0) in
        ap (λ xs. s ∷ xs) rec ∙ sym (ap (λ n. take n (s ∷ before)) k)
    step false e rec = let k : end - number ≡ 0 = omega (arith, leb-false number s.segment.media_sequence e, f.0) in sym (ap (λ n. take n (s ∷ before)) k)

up_drop : (number end : ℕ) (seen : List Marked) → FallFrom end seen → up_to number seen ≡ drop (end - (number + 1)) seen
up_drop number end [] f = sym (drop_all (end - (number + 1)) [] (omega arith))
up_drop number end (s ∷ before) f = step (nat_lt number s.segment.media_sequence) refl (up_drop number s.segment.media_sequence before f.1)
  where
    step : (b : Bool) → nat_lt number s.segment.media_sequence ≡ b → up_to number before ≡ drop (s.segment.media_sequence - (number + 1)) before
        → cond b (up_to number before) (s ∷ before) ≡ drop (end - (number + 1)) (s ∷ before)
    step true e rec =
        let k : end - (number + 1) ≡ suc (s.segment.media_sequence - (number + 1)) = omega (arith, ltb-true number s.segment.media_sequence e, f.0) in
        rec ∙ sym (ap (λ n. drop n (s ∷ before)) k)
    step false e rec = let k : end - (number + 1) ≡ 0 = omega (arith, ltb-false number s.segment.media_sequence e, f.0) in sym (ap (λ n. drop n (s ∷ before)) k)

-- ---- the parts of those that are held

seen_long : (store : Store) (list : List Held) → length (history_in store list) ≡ length list
seen_long store list = length-reverse (map (meant store) list) ∙ length-map list (meant store)

module _ (store : Store) (list : List Held) (k : ℕ) (within : k ≤ length list) where
  parts : history_in store list ≡ history_in store (drop k list) ++ history_in store (take k list)
  parts =
      ap (history_in store) (sym (take-append-drop k list))
      ∙ (ap reverse (map-append (meant store) (take k list) (drop k list)) ∙ reverse-append (map (meant store) (take k list)) (map (meant store) (drop k list)))

  later_long : length (history_in store (drop k list)) ≡ length list - k
  later_long = seen_long store (drop k list) ∙ length-drop k list

  front_is : history_in store (take k list) ≡ drop (length list - k) (history_in store list)
  front_is =
      sym (ap (drop (length list - k)) parts
      ∙ (ap (λ n. drop n (history_in store (drop k list) ++ history_in store (take k list))) (sym later_long) ∙ drop-append_seam (history_in store (drop k list)) (history_in store (take k list))))

  later_is : history_in store (drop k list) ≡ take (length list - k) (history_in store list)
  later_is = sym (ap (take (length list - k)) parts ∙ take_at (history_in store (drop k list)) (history_in store (take k list)) (length list - k) later_long)

-- ---- where a number begins

module _ (store : Store) (list : List Held) (first number : ℕ) (rise : RiseByOne first list) where
  end_is : FallFrom (first + length list) (history_in store list)
  end_is = falls store first list rise

  pub gone_at : (place : ℕ) → place ≡ min (number - first) (length list) → history_in store (take place list) ≡ gone_before number (history_in store list)
  gone_at place e =
      let same : length list - place ≡ min ((first + length list) - number) (length (history_in store list)) = omega (arith, e, seen_long store list) in
      front_is store list place (omega (arith, e))
      ∙ (ap (λ n. drop n (history_in store list)) same ∙ (sym (drop_less ((first + length list) - number) (history_in store list)) ∙ sym (gone_drop number (first + length list) (history_in store list) end_is)))

  pub shown_at : (place : ℕ) → place ≡ min (number - first) (length list) → history_in store (drop place list) ≡ shown_from number (history_in store list)
  shown_at place e =
      let same : length list - place ≡ min ((first + length list) - number) (length (history_in store list)) = omega (arith, e, seen_long store list) in
      later_is store list place (omega (arith, e))
      ∙ (ap (λ n. take n (history_in store list)) same ∙ (sym (take_less ((first + length list) - number) (history_in store list)) ∙ sym (shown_take number (first + length list) (history_in store list) end_is)))

  pub up_at : (place : ℕ) → place ≡ min ((number + 1) - first) (length list) → history_in store (take place list) ≡ up_to number (history_in store list)
  up_at place e =
      let same : length list - place ≡ min ((first + length list) - (number + 1)) (length (history_in store list)) = omega (arith, e, seen_long store list) in
      front_is store list place (omega (arith, e))
      ∙ (ap (λ n. drop n (history_in store list)) same ∙ (sym (drop_less ((first + length list) - (number + 1)) (history_in store list)) ∙ sym (up_drop number (first + length list) (history_in store list) end_is)))

-- ---- those that are shown after others

pub rise_joined : (n : ℕ) (xs ys : List Held) → RiseByOne n xs → RiseByOne (n + length xs) ys → RiseByOne n (xs ++ ys)
rise_joined n [] ys r s = subst (λ k. RiseByOne k ys) (omega arith) s
rise_joined n (x ∷ xs) ys r s = (r.0, rise_joined (n + 1) xs ys r.1 (subst (λ k. RiseByOne k ys) (omega arith) s))

pub rise_marked : (m : Moment) (n : ℕ) (newest last : Option (List ℕ)) (hints : List Hint) (segments : List Segment) (instants : List (Option ℤ)) → RiseFrom n segments → RiseByOne n (mark_on m newest last hints segments instants)
rise_marked m n newest last hints [] instants r = tt
rise_marked m n newest last hints (s ∷ later) [] r = tt
rise_marked m n newest last hints (s ∷ later) (i ∷ more) r = grind (arith, rise_marked m (n + 1) (next_id m newest last i) (or_earlier (next_id m newest last i) last) (drop 1 hints) later more r.1)

every_new : (segments : List Segment) → filter (is_new []) segments ≡ segments
every_new [] = refl
every_new (s ∷ later) = ap (λ xs. s ∷ xs) (every_new later)

rise_fresh : (end : ℕ) (seen : List Marked) (segments : List Segment) → FallFrom end seen → (length seen ≡ 0 → end ≡ first_number segments) → first_number segments ≤ end → AreContiguous segments
    → RiseFrom end (filter (is_new seen) segments)
rise_fresh end [] segments f anew near r = subst (RiseFrom end) (sym (every_new segments)) (subst (λ k. RiseFrom k segments) (sym (anew refl)) r)
rise_fresh end (s ∷ before) segments f anew near r =
    let past = are_past s.segment.media_sequence (first_number segments) segments (omega (arith, near, f.0)) r in
    subst (λ k. RiseFrom k (filter (is_new (s ∷ before)) segments)) f.0 past.rise

-- a playlist's new segments go on those that are shown
pub rises_on : (m : Moment) (shown : List Held) (newest last : Option (List ℕ)) (hints : List Hint) (segments fresh : List Segment) (instants : List (Option ℤ)) (marked list : List Held) → RisesOn shown segments → AreContiguous segments
    → fresh ≡ filter (is_new (history_in m.store shown)) segments → marked ≡ mark_on m newest last hints fresh instants → list ≡ shown ++ marked → AreRising list
rises_on m shown newest last hints segments fresh instants marked list h r fresh_is marked_is list_is =
    let end = h.first + length shown in
    let fresh_rise : RiseFrom end fresh =
    subst (RiseFrom end) (sym fresh_is)
    (rise_fresh end (history_in m.store shown) segments (falls m.store h.first shown h.rise) (λ e. h.anew (omega (arith, e, seen_long m.store shown))) h.near r) in
    let marked_rise : RiseByOne end marked = subst (RiseByOne end) (sym marked_is) (rise_marked m end newest last hints fresh instants fresh_rise) in
    (h.first, subst (RiseByOne h.first) (sym list_is) (rise_joined h.first shown marked h.rise marked_rise))

pub first_is : (n : ℕ) (list : List Held) (m : Held) → RiseByOne n list → slice_get list 0 ≡ Some m → m.segment.media_sequence ≡ n
first_is n [] m r e = absurd (cc)
first_is n (x ∷ later) m r e = grind arith
