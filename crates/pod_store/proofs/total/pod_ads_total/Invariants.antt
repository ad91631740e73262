use Rattle.std.proofs.Common.{◌≡◌, ◌<◌, ◌+◌, length}
use Rattle.std.specs.Prelude.{◌^◌}
use Rattle.pod_store.specs.Pods.{pod_ads_total}
use Rattle.pod_store.proofs.total.pod_ads_total.Given as goal

abbrev pub invariant-loop-ad : goal.invariant-loop-ad
invariant-loop-ad l = (l.total + pod_ads_total l.rest ≡ pod_ads_total l.ads) × (pod_ads_total l.ads < 2 ^ 64)

abbrev pub decreases-loop-ad : goal.decreases-loop-ad
decreases-loop-ad l = length l.rest
