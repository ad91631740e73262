use Rattle.std.proofs.Common.{◌≡◌, drop}
use Rattle.pod_store.specs.Store.{with_copies}
use Rattle.pod_store.specs.Inner.Store.{GrowsBy}
use Rattle.pod_store.proofs.store.PodStore.copy_each.Given as goal

abbrev pub invariant-loop-id : goal.invariant-loop-id
invariant-loop-id l =
    (with_copies l.self (drop l.id-index l.ids) ≡ with_copies l.fn.self l.ids) × GrowsBy l.fn.self l.self
