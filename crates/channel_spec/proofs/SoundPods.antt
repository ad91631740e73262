-- A pod that keeps the rules of pods has an ad, and each ad a segment.
use Rattle.std.proofs.Common.{◌≡◌, ℕ, ◌<◌, true, List, [], ◌∷◌, length, arith}
use Rattle.std.specs.Prelude.{nat_lt}
use Rattle.std.specs.List.{list_all, AllByRecursion}
use Rattle.std.proofs.lemmas.Bool.{and_parts}
use Rattle.std.proofs.lemmas.Bool.Decides.{nat_tests}
use Rattle.pod_store.specs.Pods.{Ad, Pod}
use Rattle.pod_store.specs.Rules.{ad_keeps, ads_keep}
use Rattle.channel_spec.specs.Sound.{IsSoundPod}

some : (n : ℕ) → nat_lt 0 n ≡ true → 0 < n
some n h = grind (arith, nat_tests)

filled : (ads : List Ad) → list_all ad_keeps ads ≡ true → AllByRecursion (λ (ad : Ad). 0 < length ad.segments) ads
filled [] h = tt
filled (ad ∷ ads) h = let p = and_parts _ _ h in (some (length ad.segments) (and_parts _ _ (and_parts _ _ p.0).0).1, filled ads p.1)

pub kept_is_sound : (pod : Pod) → ads_keep pod.ads ≡ true → IsSoundPod pod
kept_is_sound pod h = grind (arith, and_parts, some, filled)
