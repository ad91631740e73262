use Rattle.std.proofs.Common.{◌≡◌, ◌+◌, ◌≤◌, length}
use Rattle.std.specs.Prelude.{None}
use Rattle.channel_window.specs.Marking.{place_on}
use Rattle.stitcher.specs.RunPods.{AreLeftOf}
use Rattle.stitcher.specs.StitchedSegments.{KnowRuns}
use Rattle.channel_window.proofs.placing.newest_run_place.Given as goal

abbrev pub invariant-loop-here : goal.invariant-loop-here
invariant-loop-here l = record {
  place : place_on l.store l.previous l.start (l.start + l.items) l.rest ≡ place_on l.store None 0 0 l.held;
  few : l.items ≤ 500;
  runs : KnowRuns l.previous l.rest;
  left : AreLeftOf l.held l.rest;
  pods : l.pods ≡ record { marked = l.held; store = l.store };
}

abbrev pub decreases-loop-here : goal.decreases-loop-here
decreases-loop-here l = length l.rest
