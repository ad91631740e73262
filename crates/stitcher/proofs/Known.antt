-- What segments know of the one before each, in parts of their list.
use Rattle.std.proofs.Common.{◌≡◌, ◌∙◌, ◌+◌, ◌≤◌, ℕ, List, [], ◌∷◌, ◌++◌, drop, take, length, zero, suc, refl, ap, subst, sym, arith}
use Rattle.std.specs.Prelude.{Option, Some, None, slice_get}
use Rattle.std.proofs.Math.Seq.{take-append_seam}
use Rattle.std.proofs.lemmas.Option.{slice_get_within}
use Rattle.playlist_model.specs.Segments.{Segment}
use Rattle.stitcher.specs.declared.marked.MarkedSegment.{MarkedSegment}
use Rattle.stitcher.specs.StitchedSegments.{KnowsRun, KnowRuns, KnowAgain, KnowCommon, KnowPrevious}
use Rattle.stitcher.specs.Inner.StitchedSegments.{KnowAgainWithin}
use Rattle.stitcher.specs.Inner.Making.{after_begun, after_front, mark_after, unmarked_front_to_stitch}

pub known_first : (previous : Option (List ℕ)) (list : List MarkedSegment) → KnowRuns previous list → KnowRuns None list
known_first previous [] k = tt
known_first previous (m ∷ later) k = (tt, k.1)

pub known_later : (count : ℕ) (previous : Option (List ℕ)) (list : List MarkedSegment) → KnowRuns previous list → KnowRuns None (drop count list)
known_later zero previous list k = known_first previous list k
known_later (suc n) previous [] k = tt
known_later (suc n) previous (m ∷ later) k = known_later n m.mark later k.1

pub known_taken : (count : ℕ) (previous : Option (List ℕ)) (list : List MarkedSegment) → KnowRuns previous list → KnowRuns previous (take count list)
known_taken zero previous list k = tt
known_taken (suc n) previous [] k = tt
known_taken (suc n) previous (m ∷ later) k = (k.0, known_taken n m.mark later k.1)

pub known_on : (previous : Option (List ℕ)) (front tail : List MarkedSegment) → KnowRuns previous front → KnowRuns (mark_after previous front) tail → KnowRuns previous (front ++ tail)
known_on previous [] tail k h = h
known_on previous (m ∷ front) tail k h = (k.0, known_on m.mark front tail k.1 h)

-- after what stands in front of a list
after_marked : (m : MarkedSegment) (later : List MarkedSegment) (mark : Option (List ℕ)) → KnowRuns mark later → KnowRuns None (m ∷ later)
    → KnowRuns mark (after_begun (m ∷ later) later mark)
after_marked m later None k all = known_later (unmarked_front_to_stitch (m ∷ later)) None (m ∷ later) all
after_marked m later (Some id) k all = k

pub known_after_front : (previous : Option (List ℕ)) (m : MarkedSegment) (later : List MarkedSegment) → KnowRuns previous (m ∷ later) → KnowRuns m.mark (after_front (m ∷ later))
known_after_front previous m later k = after_marked m later m.mark k.1 (known_first previous (m ∷ later) k)

-- ---- what they have in common with the one before

pub common_first : (previous : Option Segment) (list : List MarkedSegment) → KnowCommon previous list → KnowCommon None list
common_first previous [] k = tt
common_first previous (m ∷ later) k = (tt, k.1)

pub common_later : (count : ℕ) (previous : Option Segment) (list : List MarkedSegment) → KnowCommon previous list → KnowCommon None (drop count list)
common_later zero previous list k = common_first previous list k
common_later (suc n) previous [] k = tt
common_later (suc n) previous (m ∷ later) k = common_later n (Some m.segment) later k.1

pub common_taken : (count : ℕ) (previous : Option Segment) (list : List MarkedSegment) → KnowCommon previous list → KnowCommon previous (take count list)
common_taken zero previous list k = tt
common_taken (suc n) previous [] k = tt
common_taken (suc n) previous (m ∷ later) k = (k.0, common_taken n (Some m.segment) later k.1)

pub common_after_front : (list : List MarkedSegment) → KnowCommon None list → KnowCommon None (after_front list)
common_after_front [] k = tt
common_after_front (m ∷ later) k = after_begun_common m later m.mark k
  where
    after_begun_common : (m : MarkedSegment) (later : List MarkedSegment) (mark : Option (List ℕ)) → KnowCommon None (m ∷ later) → KnowCommon None (after_begun (m ∷ later) later mark)
    after_begun_common m later None k = common_later (unmarked_front_to_stitch (m ∷ later)) None (m ∷ later) k
    after_begun_common m later (Some id) k = common_first (Some m.segment) later k.1

-- some that may stand after any segment
common_on : (previous : Option Segment) (front tail : List MarkedSegment) → KnowCommon previous front → ((before : Option Segment) → KnowCommon before tail) → KnowCommon previous (front ++ tail)
common_on previous [] tail k h = h previous
common_on previous (m ∷ front) tail k h = (k.0, common_on (Some m.segment) front tail k.1 h)

-- ---- which one before has their mark

some_is : {A : Type 0} {a b : A} → ◌≡◌ {A = Option A} (Some a) (Some b) → a ≡ b
some_is h = cc h

found_later : {X : Type 0} (count place : ℕ) (xs : List X) → slice_get (drop count xs) place ≡ slice_get xs (place + count)
found_later zero place xs =
    let at : place ≡ place + 0 = omega arith in
    ap (slice_get xs) at
found_later (suc n) place [] = refl
found_later (suc n) place (x ∷ xs) =
    let at : suc (place + n) ≡ place + suc n = omega arith in
    found_later n place xs ∙ ap (slice_get (x ∷ xs)) at

found_taken : {X : Type 0} (count place : ℕ) (xs : List X) (x : X) → slice_get (take count xs) place ≡ Some x → slice_get xs place ≡ Some x
found_taken zero place xs x f = absurd (cc f)
found_taken (suc n) place [] x f = absurd (cc f)
found_taken (suc n) zero (y ∷ ys) x f = f
found_taken (suc n) (suc place) (y ∷ ys) x f = found_taken n place ys x f

-- it is among the first ones or among the others
found_among : {X R : Type 0} (xs ys : List X) (place : ℕ) (x : X) → slice_get (xs ++ ys) place ≡ Some x → (slice_get xs place ≡ Some x → R)
    → ((later : ℕ) → place ≡ later + length xs → slice_get ys later ≡ Some x → R) → R
found_among [] ys place x f here there = there place (omega arith) f
found_among (y ∷ xs) ys zero x f here there = here f
found_among (y ∷ xs) ys (suc place) x f here there = found_among xs ys place x f here (λ later e. there later (omega (arith, e)))

pub again_later : (count : ℕ) (list : List MarkedSegment) → KnowAgain list → KnowAgain (drop count list)
again_later count list k place before m f g =
    let at : place + count + m.again ≡ place + m.again + count = omega arith in
    k (place + count) before m (sym (found_later count place list) ∙ f) (ap (slice_get list) at ∙ (sym (found_later count (place + m.again) list) ∙ g))

pub again_taken : (count : ℕ) (list : List MarkedSegment) → KnowAgain list → KnowAgain (take count list)
again_taken count list k place before m f g = k place before m (found_taken count place list before f) (found_taken count (place + m.again) list m g)

again_on : (front tail : List MarkedSegment) → KnowAgain front → KnowAgainWithin tail → KnowAgain (front ++ tail)
again_on front tail k h place before m f g =
    found_among front tail (place + m.again) m g (λ here. found_among front tail place before f
    (λ first. k place before m first here)
    (λ i at first. absurd (omega (arith, at, slice_get_within front (place + m.again) m here))))
    (λ j at here. found_among front tail place before f
    (λ first. absurd (omega (arith, at, h.within j m here, slice_get_within front place before first)))
    (λ i from first. h.again i before m first (ap (slice_get tail) (omega (arith, at, from)) ∙ here)))

-- a list with one more, which has the mark of one of them
pub again_pushed : (list : List MarkedSegment) (m : MarkedSegment) → KnowAgainWithin list → m.again ≤ length list → ((before : MarkedSegment) (place : ℕ) → place + m.again ≡ length list → slice_get list place ≡ Some before → m.mark ≡ before.mark)
    → KnowAgainWithin (list ++ m ∷ [])
again_pushed list m k within same = record { again = again; within = bound }
  where
    last_is : (a b : MarkedSegment) (later : ℕ) → slice_get (a ∷ []) later ≡ Some b → later ≡ 0
    last_is a b zero f = refl
    last_is a b (suc n) f = absurd (cc f)

    it_is : (a b : MarkedSegment) (later : ℕ) → slice_get (a ∷ []) later ≡ Some b → a ≡ b
    it_is a b zero f = some_is f
    it_is a b (suc n) f = absurd (cc f)

    bound : (place : ℕ) (x : MarkedSegment) → slice_get (list ++ m ∷ []) place ≡ Some x → x.again ≤ place
    bound place x f = found_among list (m ∷ []) place x f (k.within place x)
        (λ later e g. subst (λ (y : MarkedSegment). y.again ≤ place) (it_is m x later g) (omega (arith, within, e)))

    again : KnowAgain (list ++ m ∷ [])
    again place before x f g = found_among list (m ∷ []) (place + x.again) x g
        (λ here. found_among list (m ∷ []) place before f (λ there. k.again place before x there here)
        (λ later e there. absurd (omega (arith, e, slice_get_within list (place + x.again) x here))))
        (λ later e here. subst (λ (y : MarkedSegment). y.mark ≡ before.mark) (it_is m x later here) (found_among list (m ∷ []) place before f
        (λ there. same before place (omega (arith, e, last_is m x later here, ap (λ (y : MarkedSegment). y.again) (it_is m x later here))) there)
        (λ first i there. ap (λ (y : MarkedSegment). y.mark) (it_is m before first there))))

-- ---- all of it

pub known_previous_later : (count : ℕ) (list : List MarkedSegment) → KnowPrevious list → KnowPrevious (drop count list)
known_previous_later count list k = record { runs = known_later count None list k.runs; common = common_later count None list k.common; again = again_later count list k.again }

pub known_previous_taken : (count : ℕ) (list : List MarkedSegment) → KnowPrevious list → KnowPrevious (take count list)
known_previous_taken count list k = record { runs = known_taken count None list k.runs; common = common_taken count None list k.common; again = again_taken count list k.again }

pub known_previous_front : (front tail : List MarkedSegment) → KnowPrevious (front ++ tail) → KnowPrevious front
known_previous_front front tail k = subst KnowPrevious (take-append_seam front tail) (known_previous_taken (length front) (front ++ tail) k)

pub known_previous_after : (front tail : List MarkedSegment) → KnowPrevious front → KnowRuns (mark_after None front) tail → ((before : Option Segment) → KnowCommon before tail) → KnowAgainWithin tail → KnowPrevious (front ++ tail)
known_previous_after front tail k runs common again = record { runs = known_on None front tail k.runs runs; common = common_on None front tail k.common common; again = again_on front tail k.again again }
