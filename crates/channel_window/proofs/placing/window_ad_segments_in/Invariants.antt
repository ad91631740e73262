use Rattle.std.proofs.Common.{◌≡◌, ◌+◌, map, sum, length}
use Rattle.pod_store.specs.Pods.{segment_count}
use Rattle.channel_window.proofs.placing.window_ad_segments_in.Given as goal

abbrev pub invariant-loop-ad : goal.invariant-loop-ad
invariant-loop-ad l = l.count + sum (map segment_count l.rest) ≡ sum (map segment_count l.ads)

abbrev pub decreases-loop-ad : goal.decreases-loop-ad
decreases-loop-ad l = length l.rest
