use Rattle.std.proofs.Common.{◌≡◌, ◌≤◌, [], map, length}
use Rattle.std.specs.Prelude.{sum}
use Rattle.serde_json.specs.View.{view}
use Rattle.spec_words.specs.Outcomes.{each_after}
use Rattle.pod_store.specs.Limits.{most_pod_segments}
use Rattle.pod_store.specs.Pods.{segment_count}
use Rattle.decision_files.specs.Decided.{next_ad}
use Rattle.decision_files.proofs.ads.ads_of_decision_file.Given as goal

abbrev pub invariant-loop-value : goal.invariant-loop-value
invariant-loop-value l =
    (each_after (next_ad l.pod) l.done.items (map view l.rest) ≡ each_after (next_ad l.pod) [] (map view l.list))
    × (l.before ≡ sum (map segment_count l.done.items)) × (l.before ≤ most_pod_segments)

abbrev pub decreases-loop-value : goal.decreases-loop-value
decreases-loop-value l = length l.rest
