use Rattle.std.proofs.Common.{◌≡◌}
use Rattle.pod_store.proofs.store.decisions_with_shared_pods.Given as goal

abbrev pub invariant-loop-id : goal.invariant-loop-id
invariant-loop-id l = l.done.items ≡ l.yielded
