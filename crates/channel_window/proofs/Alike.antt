-- A segment and the shown one at its place, after two that are the same.
use Rattle.std.proofs.Common.{◌≡◌, ◌∙◌, ℕ, ◌+◌, ◌-◌, ◌≤◌, zero, suc, true, List, [], ◌∷◌, refl, ap, sym, subst, arith, length, Some, None}
use Rattle.std.specs.Prelude.{Option, slice_get, nat_lt}
use Rattle.std.proofs.lemmas.Bool.{lt-ltb}
use Rattle.std.proofs.lemmas.Option.{slice_get_within, get_or_from_slice_get}
use Rattle.playlist_model.specs.Segments.{Segment}
use Rattle.playlist_model.specs.Same.{kept_parts}
use Rattle.playlist_model.specs.declared.in_common.InCommon.{InCommon}
use Rattle.playlist_model.specs.InCommon.{AreAlike, HaveInCommon}
use Rattle.playlist_model.proofs.SameSegments.{same_segment_decides}
use Rattle.stitcher.specs.declared.marked.MarkedSegment.{MarkedSegment as Held}
use Rattle.stitcher.specs.StitchedSegments.{KnowCommon}
use Rattle.channel_spec.specs.Successor.{first_number}
use Rattle.channel_window.specs.Checked.{AreContiguous}
use Rattle.channel_window.specs.Listed.{window_segments_in}
use Rattle.channel_window.specs.Inner.Checked.{is_as_before}
use Rattle.channel_window.proofs.Found.{was_there, held_there, held_length}

some_is : {A : Type 0} {a b : A} → ◌≡◌ {A = Option A} (Some a) (Some b) → a ≡ b
some_is h = cc h

-- a segment knows what it has in common with the one at the place before it
known_at : (previous : Option Segment) (list : List Held) (place : ℕ) (before now : Held) → KnowCommon previous list → slice_get list place ≡ Some before → slice_get list (suc place) ≡ Some now
    → HaveInCommon now.in_common before.segment now.segment
known_at previous [] place before now k f g = absurd (cc f)
known_at previous (m ∷ []) zero before now k f g = absurd (cc g)
known_at previous (m ∷ n ∷ later) zero before now k f g =
    subst (λ (x : Held). HaveInCommon x.in_common before.segment x.segment) (some_is g) (subst (λ (x : Held). HaveInCommon n.in_common x.segment n.segment) (some_is f) k.1.0)
known_at previous (m ∷ later) (suc place) before now k f g = known_at (Some m.segment) later place before now k.1 f g

one_before : (list : List Held) (place : ℕ) (m : Held) → slice_get list (suc place) ≡ Some m → (before : Held) × (slice_get list place ≡ Some before)
one_before [] place m f = absurd (cc f)
one_before (x ∷ list) zero m f = (x, refl)
one_before (x ∷ list) (suc place) m f = one_before list place m f

-- the shown segment at the place of one that is as it is shown
shown_there : (shown : List Held) (segment : Segment) (first : ℕ) (before : Held) → AreContiguous (window_segments_in shown) → first ≡ first_number (window_segments_in shown) → first ≤ segment.media_sequence
    → slice_get shown (segment.media_sequence - first) ≡ Some before → is_as_before (window_segments_in shown) segment ≡ true → kept_parts segment ≡ kept_parts before.segment
shown_there shown segment first before r e l f same =
    let place = segment.media_sequence - first in
    let within = slice_get_within shown place before f in
    let long = held_length shown in
    let inside : true ≡ nat_lt place (length (window_segments_in shown)) = sym (lt-ltb (segment.media_sequence - first) (length (window_segments_in shown)) (omega (arith, within, long))) in
    let at = held_there shown place before within (sym (get_or_from_slice_get shown place before before f)) in
    (same_segment_decides segment before.segment).0 (was_there (window_segments_in shown) segment before.segment first r e l inside at ∙ same)

pub alike_next : (shown : List Held) (segment next : Segment) (first place : ℕ) (common both : InCommon) (m other : Held) → AreContiguous (window_segments_in shown) → KnowCommon None shown → is_as_before (window_segments_in shown) segment ≡ true
    → first ≡ first_number (window_segments_in shown) → first ≤ segment.media_sequence → place ≡ (segment.media_sequence - first) + 1 → slice_get shown place ≡ Some m
    → ((before now before_other now_other : Segment) → kept_parts before ≡ kept_parts before_other → HaveInCommon common before now → HaveInCommon m.in_common before_other now_other → AreAlike both now now_other)
    → HaveInCommon common segment next → slice_get shown place ≡ Some other → AreAlike both next other.segment
alike_next shown segment next first place common both m other r k same e l at f after h g =
    let here : place ≡ suc (segment.media_sequence - first) = omega (arith, at) in
    let found = sym (ap (slice_get shown) here) ∙ f in
    let before = one_before shown (segment.media_sequence - first) m found in
    let known = known_at None shown (segment.media_sequence - first) before.0 m k before.1 found in
    let kept = shown_there shown segment first before.0 r e l before.1 same in
    subst (λ (x : Held). AreAlike both next x.segment) (some_is (sym f ∙ g)) (after segment next before.0.segment m.segment kept h known)
