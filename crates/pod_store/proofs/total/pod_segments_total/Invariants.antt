use Rattle.std.proofs.Common.{◌≡◌, ◌<◌, ◌+◌, length}
use Rattle.std.specs.Prelude.{◌^◌}
use Rattle.pod_store.specs.Pods.{pod_segments_total}
use Rattle.pod_store.proofs.total.pod_segments_total.Given as goal

abbrev pub invariant-loop-segment : goal.invariant-loop-segment
invariant-loop-segment l = (l.total + pod_segments_total l.rest ≡ pod_segments_total l.segments) × (pod_segments_total l.segments < 2 ^ 64)

abbrev pub decreases-loop-segment : goal.decreases-loop-segment
decreases-loop-segment l = length l.rest
