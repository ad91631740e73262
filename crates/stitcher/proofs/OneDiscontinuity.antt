-- Kept segments of one discontinuity number.
use Rattle.std.proofs.Common.{◌≡◌, ℕ, Bool, true, false, ◌&&◌, ◌<◌, ◌≤◌, ◌+◌, ◌^◌, List, [], ◌∷◌, length, refl, ap, sym, ◌∙◌, arith}
use Rattle.std.specs.Prelude.{Some, nat_lt}
use Rattle.std.specs.List.{list_all}
use Rattle.std.proofs.lemmas.Bool.{and_parts, eqb-true, lt-ltb, le-ltb, ltb-false}
use Rattle.stitcher.specs.Stitched.{Numbers}
use Rattle.stitcher.specs.StitchedSegments.{item_fits}
use Rattle.stitcher.specs.declared.marked.MarkedSegment.{MarkedSegment}
use Rattle.stitcher.specs.Stretches.{segment_items, stitched_numbers_on}
use Rattle.stitcher.specs.Inner.Making.{is_in_discontinuity, last_of_one_discontinuity, last_of_stitched_run, numbers_fit}

-- the numbers after one more
abbrev one_after : Numbers → Numbers
one_after n = record { media_sequence = n.media_sequence + 1; discontinuity_sequence = n.discontinuity_sequence; discontinuities = 0 }

first_in : (discontinuity : ℕ) (next : MarkedSegment) (later : List MarkedSegment) → list_all (is_in_discontinuity discontinuity) (next ∷ later) ≡ true → next.segment.discontinuity_sequence ≡ discontinuity
first_in discontinuity next later all = eqb-true next.segment.discontinuity_sequence discontinuity (and_parts _ _ all).0

one_on : (n : Numbers) (m next : MarkedSegment) (later : List MarkedSegment) → next.segment.discontinuity_sequence ≡ m.segment.discontinuity_sequence → stitched_numbers_on n m (next ∷ later) ≡ one_after n
one_on n m next later e = grind (arith, e)

one_more_in : (n : Numbers) (discontinuity count : ℕ) → last_of_one_discontinuity (one_after n) discontinuity count ≡ last_of_one_discontinuity n discontinuity (count + 1)
one_more_in n discontinuity count =
    let media : n.media_sequence + 1 + count ≡ n.media_sequence + (count + 1) = omega arith in
    ap (λ k. record { numbers = record { media_sequence = k; discontinuity_sequence = n.discontinuity_sequence; discontinuities = 0 }; origin = Some discontinuity }) media

count_of : (next : MarkedSegment) (later : List MarkedSegment) → length later + 1 ≡ length (next ∷ later)
count_of next later = omega arith

last_on : (n : Numbers) (discontinuity : ℕ) (m next : MarkedSegment) (later : List MarkedSegment) → m.segment.discontinuity_sequence ≡ discontinuity → list_all (is_in_discontinuity discontinuity) (next ∷ later) ≡ true
    → last_of_stitched_run n m (next ∷ later) ≡ last_of_one_discontinuity n discontinuity (length later + 1)
last_on n discontinuity m next [] e all =
    let here = first_in discontinuity next [] all in
    ap (λ (k : Numbers). last_of_stitched_run k next []) (one_on n m next [] (here ∙ sym e))
    ∙ ap (λ d. record { numbers = one_after n; origin = Some d }) here
last_on n discontinuity m next (x ∷ rest) e all =
    let here = first_in discontinuity next (x ∷ rest) all in
    ap (λ (k : Numbers). last_of_stitched_run k next (x ∷ rest)) (one_on n m next (x ∷ rest) (here ∙ sym e))
    ∙ (last_on (one_after n) discontinuity next x rest here (and_parts _ _ all).1
    ∙ (one_more_in n discontinuity (length rest + 1) ∙ ap (λ k. last_of_one_discontinuity n discontinuity (k + 1)) (count_of x rest)))

pub last_of_one : (n : Numbers) (discontinuity : ℕ) (m : MarkedSegment) (later : List MarkedSegment) → m.segment.discontinuity_sequence ≡ discontinuity → 0 < length later → list_all (is_in_discontinuity discontinuity) later ≡ true
    → last_of_stitched_run n m later ≡ last_of_one_discontinuity n discontinuity (length later)
last_of_one n discontinuity m [] e some all = absurd (omega (arith, some))
last_of_one n discontinuity m (next ∷ later) e some all = last_on n discontinuity m next later e all ∙ ap (last_of_one_discontinuity n discontinuity) (count_of next later)

-- ---- whether their numbers fit

abbrev fits_to : Numbers → ℕ → Bool
fits_to n count = nat_lt (n.media_sequence + count) (2 ^ 64)

both_fit : (a b : Bool) → (a && b) ≡ true → b ≡ true
both_fit a b h = (and_parts a b h).1

one_fit : (n : Numbers) → numbers_fit n ≡ true → (b : Bool) → fits_to n 1 ≡ b → numbers_fit (one_after n) ≡ b
one_fit n fits b e =
    ap (λ c. c && nat_lt n.discontinuity_sequence (2 ^ 64)) e ∙ (ap (λ c. b && c) (both_fit (nat_lt n.media_sequence (2 ^ 64)) (nat_lt n.discontinuity_sequence (2 ^ 64)) fits) ∙ and_true b)
  where
    and_true : (b : Bool) → (b && true) ≡ b
    and_true true = refl
    and_true false = refl

none_fits : (n : Numbers) (count : ℕ) → fits_to n 1 ≡ false → fits_to n (count + 1) ≡ false
none_fits n count e =
    let past : 2 ^ 64 ≤ n.media_sequence + 1 = ltb-false (n.media_sequence + 1) (2 ^ 64) e in
    le-ltb (n.media_sequence + (count + 1)) (2 ^ 64) (omega (arith, past))

fit_step : (n : Numbers) (m next : MarkedSegment) (later : List MarkedSegment) → numbers_fit n ≡ true → stitched_numbers_on n m (next ∷ later) ≡ one_after n
    → (numbers_fit (one_after n) ≡ true → list_all item_fits (segment_items (one_after n) (next ∷ later)) ≡ fits_to (one_after n) (length later))
    → (b : Bool) → fits_to n 1 ≡ b → list_all item_fits (segment_items n (m ∷ (next ∷ later))) ≡ fits_to n (length later + 1)
fit_step n m next later fits is on true more =
    let count : n.media_sequence + 1 + length later ≡ n.media_sequence + (length later + 1) = omega arith in
    ap (λ (k : Numbers). numbers_fit n && list_all item_fits (segment_items k (next ∷ later))) is
    ∙ (ap (λ b. b && list_all item_fits (segment_items (one_after n) (next ∷ later))) fits
    ∙ (on (one_fit n fits true more) ∙ ap (λ k. nat_lt k (2 ^ 64)) count))
fit_step n m next later fits is on false more =
    ap (λ (k : Numbers). numbers_fit n && list_all item_fits (segment_items k (next ∷ later))) is
    ∙ (ap (λ b. b && list_all item_fits (segment_items (one_after n) (next ∷ later))) fits
    ∙ (ap (λ b. b && list_all item_fits (segment_items (stitched_numbers_on (one_after n) next later) later)) (one_fit n fits false more)
    ∙ sym (none_fits n (length later) more)))

fit_on : (n : Numbers) (discontinuity : ℕ) (m : MarkedSegment) (later : List MarkedSegment) → numbers_fit n ≡ true → m.segment.discontinuity_sequence ≡ discontinuity → list_all (is_in_discontinuity discontinuity) later ≡ true
    → list_all item_fits (segment_items n (m ∷ later)) ≡ fits_to n (length later)
fit_on n discontinuity m [] fits e all =
    let none : n.media_sequence ≡ n.media_sequence + 0 = omega arith in
    ap (λ b. b && true) fits ∙ (sym (and_parts (nat_lt n.media_sequence (2 ^ 64)) (nat_lt n.discontinuity_sequence (2 ^ 64)) fits).0 ∙ ap (λ k. nat_lt k (2 ^ 64)) none)
fit_on n discontinuity m (next ∷ later) fits e all =
    let here = first_in discontinuity next later all in
    fit_step n m next later fits (one_on n m next later (here ∙ sym e)) (λ fit. fit_on (one_after n) discontinuity next later fit here (and_parts _ _ all).1) (fits_to n 1) refl
    ∙ ap (fits_to n) (count_of next later)

pub one_fits : (n : Numbers) (discontinuity : ℕ) (m : MarkedSegment) (later : List MarkedSegment) → numbers_fit n ≡ true → m.segment.discontinuity_sequence ≡ discontinuity → list_all (is_in_discontinuity discontinuity) later ≡ true
    → n.media_sequence + length later < 2 ^ 64 → list_all item_fits (segment_items n (m ∷ later)) ≡ true
one_fits n discontinuity m later fits e all within = fit_on n discontinuity m later fits e all ∙ lt-ltb _ _ within

pub one_unfit : (n : Numbers) (discontinuity : ℕ) (m : MarkedSegment) (later : List MarkedSegment) → numbers_fit n ≡ true → m.segment.discontinuity_sequence ≡ discontinuity → list_all (is_in_discontinuity discontinuity) later ≡ true
    → 2 ^ 64 ≤ n.media_sequence + length later → list_all item_fits (segment_items n (m ∷ later)) ≡ false
one_unfit n discontinuity m later fits e all past = fit_on n discontinuity m later fits e all ∙ le-ltb _ _ past
