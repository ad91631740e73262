use Rattle.std.proofs.Common.{◌≡◌, ◌||◌, ℕ, List, length}
use Rattle.pod_store.specs.Store.{is_one_of}
use Rattle.pod_store.proofs.id_set.IdSet.of.Given as goal

abbrev pub invariant-loop-id : goal.invariant-loop-id
invariant-loop-id l = (id : List ℕ) → (is_one_of l.set id || is_one_of l.rest id) ≡ is_one_of l.list id

abbrev pub decreases-loop-id : goal.decreases-loop-id
decreases-loop-id l = length l.rest
