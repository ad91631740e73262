use Rattle.std.proofs.Common.{◌≡◌, [], map}
use Rattle.std.specs.Vec.Iter.{into_iter_items}
use Rattle.serde_json.specs.View.{view}
use Rattle.spec_words.specs.Outcomes.{each_after}
use Rattle.decision_files.specs.Decided.{next_break, decision_id}
use Rattle.decision_files.proofs.file.breaks_of_decision_file.Given as goal

abbrev pub invariant-loop-value : goal.invariant-loop-value
invariant-loop-value l =
    (each_after next_break l.done.items (map view (into_iter_items l.value-iterator)) ≡ each_after next_break [] (map view l.fn.list.items))
    × (l.ids ≡ map decision_id l.done.items)
