use Rattle.std.proofs.Common.{◌≡◌, length}
use Rattle.stitcher.specs.Inner.Making.{stitched_run_goes_on_to_last}
use Rattle.stitcher.specs.StitchedSegments.{KnowRuns}
use Rattle.stitcher.proofs.making.stitched_run_goes_on_to_last.Given as goal

abbrev pub invariant-loop-here : goal.invariant-loop-here
invariant-loop-here l = record {
  same : stitched_run_goes_on_to_last l.mark l.later ≡ stitched_run_goes_on_to_last l.previous l.rest;
  runs : KnowRuns l.previous l.rest;
}

abbrev pub decreases-loop-here : goal.decreases-loop-here
decreases-loop-here l = length l.rest
