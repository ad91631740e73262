-- Segments with no mark, and with nothing in common, one more at a time.
use Rattle.std.proofs.Common.{◌≡◌, ◌∙◌, ◌+◌, zero, suc, List, [], ◌∷◌, ◌++◌, refl, sym, subst}
use Rattle.std.specs.Prelude.{ℕ, Option, Some, None, slice_get}
use Rattle.playlist_model.specs.Segments.{Segment}
use Rattle.playlist_model.specs.InCommon.{HaveInCommon}
use Rattle.pod_store.specs.Store.{Store}
use Rattle.stitcher.specs.declared.marked.MarkedSegment.{MarkedSegment}
use Rattle.stitcher.specs.StitchedSegments.{IsDecided, AreDecided, KnowsRun, KnowRuns, KnowAgain, KnowsCommon, KnowCommon, KnowPrevious}

-- none of these has a mark, and each may stand after any segment
abbrev pub AreUnmarked : List MarkedSegment → Type 0
AreUnmarked [] = Unit {0}
AreUnmarked (m ∷ later) = (m.mark ≡ None) × ((before : Segment) → HaveInCommon m.in_common before m.segment) × AreUnmarked later

pub one_more : (done : List MarkedSegment) (m : MarkedSegment) → m.mark ≡ None → ((before : Segment) → HaveInCommon m.in_common before m.segment) → AreUnmarked done → AreUnmarked (done ++ m ∷ [])
one_more [] m h k u = (h, k, tt)
one_more (x ∷ done) m h k u = (u.0, u.1, one_more done m h k u.2)

pub decided : (store : Store) (list : List MarkedSegment) → AreUnmarked list → AreDecided store list
decided store [] u = tt
decided store (m ∷ later) u = (subst (IsDecided store) (sym u.0) tt, decided store later u.2)

known_on : (list : List MarkedSegment) (previous : Option (List ℕ)) → previous ≡ None → AreUnmarked list → KnowRuns previous list
known_on [] previous e u = tt
known_on (m ∷ later) previous e u = (subst (λ o. KnowsRun o m) (sym e) tt, known_on later m.mark u.0 u.2)

knows_common : (m : MarkedSegment) (previous : Option Segment) → ((before : Segment) → HaveInCommon m.in_common before m.segment) → KnowsCommon previous m
knows_common m None k = tt
knows_common m (Some before) k = k before

common_on : (list : List MarkedSegment) (previous : Option Segment) → AreUnmarked list → KnowCommon previous list
common_on [] previous u = tt
common_on (m ∷ later) previous u = (knows_common m previous u.1, common_on later (Some m.segment) u.2)

some_is : {A : Type 0} {a b : A} → ◌≡◌ {A = Option A} (Some a) (Some b) → a ≡ b
some_is h = cc h

none_at : (list : List MarkedSegment) (place : ℕ) (m : MarkedSegment) → AreUnmarked list → slice_get list place ≡ Some m → m.mark ≡ None
none_at [] place m u f = absurd (cc f)
none_at (x ∷ later) zero m u f = subst (λ (y : MarkedSegment). y.mark ≡ None) (some_is f) u.0
none_at (x ∷ later) (suc place) m u f = none_at later place m u.2 f

again_in : (list : List MarkedSegment) → AreUnmarked list → KnowAgain list
again_in list u place before m f g = none_at list (place + m.again) m u g ∙ sym (none_at list place before u f)

pub known : (list : List MarkedSegment) → AreUnmarked list → KnowPrevious list
known list u = record { runs = known_on list None refl u; common = common_on list None u; again = again_in list u }
