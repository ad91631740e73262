-- What the second item of some has in common with the first.
use Rattle.std.proofs.Common.{◌≡◌, ◌∙◌, ◌≤◌, List, [], ◌∷◌, ◌++◌, map, length, refl, sym, subst, append_assoc, arith}
use Rattle.playlist_model.specs.InCommon.{HaveInCommon}
use Rattle.playlist_model.specs.Segments.{Segment}
use Rattle.playlist_model.specs.declared.in_common.InCommon.{InCommon}
use Rattle.stitcher.specs.Stretches.{SecondHasInCommon, stitched_ad_item}
use Rattle.stitcher.specs.declared.OutSegment.{OutSegment}

second_is : (common : InCommon) (x y : OutSegment) (xs : List OutSegment) → HaveInCommon common x.segment y.segment → SecondHasInCommon common (x ∷ (y ∷ xs))
second_is common x y xs h before now later e =
    let first : x ≡ before = cc e in
    let second : y ≡ now = cc e in
    subst (λ n. HaveInCommon common before.segment n.segment) second (subst (λ b. HaveInCommon common b.segment y.segment) first h)

-- what nothing is said of
pub second_unknown : (common : InCommon) → ((before now : Segment) → HaveInCommon common before now) → (items : List OutSegment) → SecondHasInCommon common items
second_unknown common h items before now later e = h before.segment now.segment

pub second_of_ads : (common : InCommon) (ads : List Segment) → ((before now : Segment) (later : List Segment) → ads ≡ before ∷ (now ∷ later) → HaveInCommon common before now)
    → (2 ≤ length ads) → (more : List OutSegment) → SecondHasInCommon common (map stitched_ad_item ads ++ more)
second_of_ads common [] h two more = absurd (omega (arith, two))
second_of_ads common (s ∷ []) h two more = absurd (omega (arith, two))
second_of_ads common (s ∷ (t ∷ ads)) h two more = second_is common (stitched_ad_item s) (stitched_ad_item t) (map stitched_ad_item ads ++ more) (h s t ads refl)

-- what stands after ads' segments is in two parts
pub second_in_parts : (common : InCommon) (items front middle tail : List OutSegment) → items ≡ (front ++ middle) ++ tail → SecondHasInCommon common (front ++ (middle ++ tail)) → SecondHasInCommon common items
second_in_parts common items front middle tail e h = subst (SecondHasInCommon common) (sym (e ∙ append_assoc front middle tail)) h
