use Rattle.std.proofs.Common.{◌≡◌, ◌+◌, ◌≤◌, map, length, filter}
use Rattle.pod_store.specs.Kept.{entry_of}
use Rattle.pod_store.specs.Store.{is_named}
use Rattle.pod_store.proofs.kept.count_named_pods.Given as goal

abbrev pub invariant-loop-one : goal.invariant-loop-one
invariant-loop-one l =
    (l.count + length (filter is_named (map entry_of l.one-iterator)) ≡ length (filter is_named (map entry_of l.kept.entries)))
    × (l.count + length l.one-iterator ≤ length l.kept.entries)
