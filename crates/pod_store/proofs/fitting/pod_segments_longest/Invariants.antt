use Rattle.std.proofs.Common.{◌≡◌, length}
use Rattle.std.specs.Prelude.{max}
use Rattle.pod_store.specs.Inner.Fitting.{pod_segments_longest}
use Rattle.pod_store.proofs.fitting.pod_segments_longest.Given as goal

abbrev pub invariant-loop-segment : goal.invariant-loop-segment
invariant-loop-segment l = max l.longest (pod_segments_longest l.rest) ≡ pod_segments_longest l.segments

abbrev pub decreases-loop-segment : goal.decreases-loop-segment
decreases-loop-segment l = length l.rest
