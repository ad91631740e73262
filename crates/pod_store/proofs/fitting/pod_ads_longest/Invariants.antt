use Rattle.std.proofs.Common.{◌≡◌, length}
use Rattle.std.specs.Prelude.{max}
use Rattle.pod_store.specs.Inner.Fitting.{pod_ads_longest}
use Rattle.pod_store.proofs.fitting.pod_ads_longest.Given as goal

abbrev pub invariant-loop-ad : goal.invariant-loop-ad
invariant-loop-ad l = max l.longest (pod_ads_longest l.rest) ≡ pod_ads_longest l.ads

abbrev pub decreases-loop-ad : goal.decreases-loop-ad
decreases-loop-ad l = length l.rest
