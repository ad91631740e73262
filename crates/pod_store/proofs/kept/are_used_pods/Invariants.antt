use Rattle.std.proofs.Common.{◌≡◌}
use Rattle.pod_store.specs.Inner.Kept.{used_ids}
use Rattle.pod_store.proofs.kept.are_used_pods.Given as goal

abbrev pub invariant-loop-id : goal.invariant-loop-id
invariant-loop-id l = l.rest ≡ used_ids l.id-iterator → l.ids ≡ used_ids l.kept.entries
