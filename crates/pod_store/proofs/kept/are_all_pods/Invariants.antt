use Rattle.std.proofs.Common.{◌≡◌}
use Rattle.pod_store.specs.Inner.Kept.{pod_ids}
use Rattle.pod_store.proofs.kept.are_all_pods.Given as goal

abbrev pub invariant-loop-id : goal.invariant-loop-id
invariant-loop-id l = l.rest ≡ pod_ids l.id-iterator → l.ids ≡ pod_ids l.kept.entries
