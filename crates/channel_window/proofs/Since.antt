-- The segments of a playlist that aren't shown yet come after those that were taken over.
use Rattle.std.proofs.Common.{◌≡◌, ℕ, ◌+◌, ◌≤◌, Bool, true, false, cond, zero, suc, List, [], ◌∷◌, ◌++◌, map, take, drop, length, refl, ap, sym, ◌∙◌, subst, arith, length-append}
use Rattle.std.specs.Prelude.{filter, nat_lt}
use Rattle.std.proofs.lemmas.Bool.{ltb-true}
use Rattle.std.proofs.lemmas.List.{take-append-drop, length-map, length-drop}
use Rattle.playlist_model.specs.Segments.{Segment}
use Rattle.playlist_model.specs.Same.{kept_parts}
use Rattle.playlist_kept.specs.Kept.{with_taken}
use Rattle.stitcher.specs.declared.marked.MarkedSegment.{MarkedSegment as Held}
use Rattle.channel_spec.specs.Sound.{RiseFrom}
use Rattle.channel_spec.specs.Successor.{first_number}
use Rattle.channel_window.specs.Checked.{AreContiguous, AreTaken}
use Rattle.channel_window.specs.Listed.{AreRising, RiseByOne, window_segments_in}
use Rattle.channel_window.specs.Inner.Listed.{is_after, since_with}

-- ---- numbers that rise

rise_parts : (n : ℕ) (xs ys : List Segment) → RiseFrom n (xs ++ ys) → RiseFrom n xs × RiseFrom (n + length xs) ys
rise_parts n [] ys r = (tt, subst (λ k. RiseFrom k ys) (omega arith) r)
rise_parts n (s ∷ xs) ys r = grind (arith, rise_parts (n + 1) xs ys r.1)

rise_take : (n m : ℕ) (xs : List Segment) → RiseFrom n xs → RiseFrom n (take m xs)
rise_take n zero xs r = tt
rise_take n (suc m) [] r = tt
rise_take n (suc m) (s ∷ xs) r = (r.0, rise_take (n + 1) m xs r.1)

rise_drop : (n m : ℕ) (xs : List Segment) → RiseFrom n xs → RiseFrom (n + m) (drop m xs)
rise_drop n zero xs r = subst (λ k. RiseFrom k xs) (omega arith) r
rise_drop n (suc m) [] r = tt
rise_drop n (suc m) (s ∷ xs) r = subst (λ k. RiseFrom k (drop m xs)) (omega arith) (rise_drop (n + 1) m xs r.1)

contiguous : (n : ℕ) (xs : List Segment) → RiseFrom n xs → AreContiguous xs
contiguous n [] r = tt
contiguous n (s ∷ xs) r = subst (λ k. RiseFrom k (s ∷ xs)) (sym r.0) r

held_rise : (n : ℕ) (held : List Held) → RiseByOne n held → RiseFrom n (window_segments_in held)
held_rise n [] r = tt
held_rise n (m ∷ later) r = (r.0, held_rise (n + 1) later r.1)

newest_number : (n : ℕ) (rest : List Held) (m : Held) → RiseByOne n (rest ++ m ∷ []) → m.segment.media_sequence ≡ n + length rest
newest_number n [] m r = omega (arith, r.0)
newest_number n (x ∷ rest) m r = let later = newest_number (n + 1) rest m r.1 in omega (arith, later)

not_over : (n k : ℕ) → k ≤ n → (b : Bool) → nat_lt n k ≡ b → b ≡ false
not_over n k h true e = absurd (omega (arith, h, ltb-true n k e))
not_over n k h false e = refl

-- none of these comes after a number that they don't reach
none_after : (n k : ℕ) (xs : List Segment) → RiseFrom k xs → k + length xs ≤ n + 1 → filter (is_after n) xs ≡ []
none_after n k [] r h = refl
none_after n k (s ∷ later) r h = grind (arith, none_after n (k + 1) later r.1 (omega (arith, h)))

one_more : (b : Bool) (s : Segment) (all xs ys : List Segment) → all ≡ xs ++ ys → cond b (s ∷ all) all ≡ cond b (s ∷ xs) xs ++ ys
one_more true s all xs ys h = ap (λ zs. s ∷ zs) h
one_more false s all xs ys h = h

filter_parts : (n : ℕ) (xs ys : List Segment) → filter (is_after n) (xs ++ ys) ≡ filter (is_after n) xs ++ filter (is_after n) ys
filter_parts n [] ys = refl
filter_parts n (s ∷ xs) ys = grind (arith, filter_parts n xs ys)

-- ---- what was taken over is shown

-- the first of the segments that stand in a list has the number of its place there
number_there : (n from : ℕ) (t : Segment) (ts there : List Segment) → RiseFrom (n + from) there → map kept_parts (t ∷ ts) ≡ map kept_parts there → t.media_sequence ≡ n + from
number_there n from t ts [] r same = absurd (cc same)
number_there n from t ts (u ∷ there) r same = grind arith

module _ (n front : ℕ) (read old : List Segment) (t : Segment) (ts : List Segment) (first : ℕ) (all : RiseFrom first (take front read ++ (t ∷ ts ++ drop front read)))
    (start : ℕ) (shown : RiseFrom start old) (end : start + length old ≡ n + 1) (taken : AreTaken old (t ∷ ts)) where
  abbrev there : List Segment
  there = drop taken.from (take taken.till old)

  before : RiseFrom first (take front read)
  before = (rise_parts first (take front read) (t ∷ ts ++ drop front read) all).0

  later : RiseFrom (first + length (take front read)) ((t ∷ ts) ++ drop front read)
  later = (rise_parts first (take front read) (t ∷ ts ++ drop front read) all).1

  number : t.media_sequence ≡ start + taken.from
  number = number_there start taken.from t ts there (rise_drop start taken.from (take taken.till old) (rise_take start taken.till old shown)) taken.same

  size : length (t ∷ ts) ≡ length there
  size = sym (length-map (t ∷ ts) kept_parts) ∙ (ap length taken.same ∙ length-map there kept_parts)

  take_fewer : (m : ℕ) (xs : List Segment) → length (take m xs) ≤ length xs
  take_fewer zero xs = omega arith
  take_fewer (suc m) [] = omega arith
  take_fewer (suc m) (x ∷ xs) = let h = take_fewer m xs in omega (arith, h)

  reach : (first + length (take front read)) + length (t ∷ ts) ≤ n + 1
  reach =
      let here = later.0 in
      let whole = length-drop taken.from (take taken.till old) in
      let few = take_fewer taken.till old in
      omega (arith, here, number, size, whole, few, end)

  pub since_after : filter (is_after n) (with_taken front read (t ∷ ts)) ≡ filter (is_after n) (drop front read)
  since_after =
      filter_parts n (take front read) ((t ∷ ts) ++ drop front read)
      ∙ (ap (λ xs. xs ++ filter (is_after n) ((t ∷ ts) ++ drop front read)) (none_after n first (take front read) before (omega (arith, reach)))
      ∙ (filter_parts n (t ∷ ts) (drop front read)
      ∙ ap (λ xs. xs ++ filter (is_after n) (drop front read)) (none_after n (first + length (take front read)) (t ∷ ts) (rise_parts (first + length (take front read)) (t ∷ ts) (drop front read) later).0 reach)))

-- ---- the same of whatever was taken over

whole_there : (front : ℕ) (read : List Segment) → with_taken front read [] ≡ read
whole_there front read = take-append-drop front read

pub are_contiguous : (front : ℕ) (read taken : List Segment) → AreContiguous (with_taken front read taken) → AreContiguous (since_with front read taken)
are_contiguous front read taken r = grind (arith, whole_there, rise_parts, contiguous)

pub are_after : (front : ℕ) (read taken : List Segment) (shown rest : List Held) (m : Held) → AreContiguous (with_taken front read taken) → AreTaken (window_segments_in shown) taken
    → AreRising shown → shown ≡ rest ++ m ∷ []
    → filter (is_after m.segment.media_sequence) (since_with front read taken) ≡ filter (is_after m.segment.media_sequence) (with_taken front read taken)
are_after front read [] shown rest m r taken rising is = ap (filter (is_after m.segment.media_sequence)) (sym (whole_there front read))
are_after front read (t ∷ ts) shown rest m r taken rising is =
    let newest = newest_number rising.0 rest m (subst (RiseByOne rising.0) is rising.1) in
    let held : length (window_segments_in shown) ≡ length rest + 1 = length-map shown _ ∙ (ap length is ∙ length-append rest (m ∷ [])) in
    sym (since_after m.segment.media_sequence front read (window_segments_in shown) t ts (first_number (with_taken front read (t ∷ ts))) r rising.0 (held_rise rising.0 shown rising.1)
    (omega (arith, newest, held)) taken)

-- nothing is shown, so nothing was taken over
none_in_none : (taken : List Segment) → AreTaken [] taken → taken ≡ []
none_in_none [] a = refl
none_in_none (t ∷ ts) a = let h : map kept_parts (t ∷ ts) ≡ [] = a.same ∙ ap (map kept_parts) (nothing a.from a.till) in absurd (cc h)
  where
    nothing : (from till : ℕ) → ◌≡◌ {A = List Segment} (drop from (take till [])) []
    nothing zero zero = refl
    nothing zero (suc till) = refl
    nothing (suc from) zero = refl
    nothing (suc from) (suc till) = refl

empty_held : (shown : List Held) → length shown ≡ 0 → window_segments_in shown ≡ []
empty_held [] h = refl
empty_held (m ∷ later) h = absurd (cc)

pub are_all : (front : ℕ) (read taken : List Segment) (shown : List Held) → AreTaken (window_segments_in shown) taken → length shown ≡ 0 → since_with front read taken ≡ with_taken front read taken
are_all front read taken shown a none = grind (arith, none_in_none, empty_held, whole_there)
