use Rattle.std.proofs.Common.{◌≡◌, ◌≤◌, map, length}
use Rattle.std.specs.Prelude.{fold}
use Rattle.std.specs.Vec.Iter.{into_iter_items, into_iter_len}
use Rattle.indexmap.specs.IndexMap.{spare}
use Rattle.pod_store.specs.Kept.{entry_of}
use Rattle.pod_store.specs.Store.{put}
use Rattle.pod_store.proofs.kept.put_all_stored_pods.Given as goal

abbrev pub invariant-loop-decision : goal.invariant-loop-decision
invariant-loop-decision l =
    (fold put (map entry_of l.kept.entries) (into_iter_items l.decision-iterator) ≡ fold put (map entry_of l.fn.kept.entries) l.fn.decisions.items)
    × (length (into_iter_items l.decision-iterator) ≤ spare l.kept)
    × (into_iter_len l.decision-iterator ≡ length (into_iter_items l.decision-iterator))
