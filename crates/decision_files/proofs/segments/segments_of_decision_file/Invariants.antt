use Rattle.std.proofs.Common.{◌≡◌, ◌≤◌, ◌+◌, [], map, length}
use Rattle.serde_json.specs.View.{view}
use Rattle.spec_words.specs.Outcomes.{each_after}
use Rattle.pod_store.specs.Limits.{most_pod_segments}
use Rattle.decision_files.specs.Decided.{next_segment_of_decision_file}
use Rattle.decision_files.proofs.segments.segments_of_decision_file.Given as goal

abbrev pub invariant-loop-value : goal.invariant-loop-value
invariant-loop-value l =
    (each_after (next_segment_of_decision_file l.ad l.before) l.done.items (map view l.rest) ≡ each_after (next_segment_of_decision_file l.ad l.before) [] (map view l.list))
    × (l.before + length l.done.items ≤ most_pod_segments)

abbrev pub decreases-loop-value : goal.decreases-loop-value
decreases-loop-value l = length l.rest
