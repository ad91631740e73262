-- What a pod keeps of its ads says whether they fit.
use Rattle.std.proofs.Common.{◌≡◌, ℕ, Bool, true, false, ◌&&◌, List, [], ◌∷◌, arith}
use Rattle.std.specs.Prelude.{max, nat_le, if◌then◌else◌}
use Rattle.std.specs.List.{list_all}
use Rattle.std.proofs.lemmas.Bool.Decides.{nat_tests}
use Rattle.pod_store.specs.Pods.{PodSegment, Ad, pod_segment_fits, pod_ad_fits}
use Rattle.pod_store.specs.Inner.Fitting.{pod_segments_longest, pod_ads_longest, are_ads_with_init_sections, are_ads_without_init_sections}

longer_fits : (a b t : ℕ) → nat_le (max a b) t ≡ (nat_le a t && nat_le b t)
longer_fits a b t = grind (arith, nat_tests)

segments_fit : (t : ℕ) (segments : List PodSegment) → list_all (pod_segment_fits t) segments ≡ nat_le (pod_segments_longest segments) t
segments_fit t [] = grind (arith, nat_tests)
segments_fit t (s ∷ later) = grind (arith, longer_fits, segments_fit t later)

-- they fit if the longest segment does, and each has an initialisation section or none has
pub ads_fit_by_the_longest :
    (t : ℕ) (w : Bool) (ads : List Ad)
    → list_all (pod_ad_fits t w) ads ≡ (nat_le (pod_ads_longest ads) t && (if w then are_ads_with_init_sections ads else are_ads_without_init_sections ads))
ads_fit_by_the_longest t true [] = grind (arith, nat_tests)
ads_fit_by_the_longest t false [] = grind (arith, nat_tests)
ads_fit_by_the_longest t true (ad ∷ later) = grind (arith, longer_fits, segments_fit, ads_fit_by_the_longest t true later)
ads_fit_by_the_longest t false (ad ∷ later) = grind (arith, longer_fits, segments_fit, ads_fit_by_the_longest t false later)
