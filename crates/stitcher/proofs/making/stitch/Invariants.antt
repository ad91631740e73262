use Rattle.std.proofs.Common.{◌≡◌, true, length}
use Rattle.std.specs.Prelude.{None}
use Rattle.std.specs.List.{list_all}
use Rattle.stitcher.specs.StitchedSegments.{item_fits, KnowCommon, KnowRuns}
use Rattle.stitcher.specs.RunPods.{AreLeftOf}
use Rattle.stitcher.specs.Inner.Making.{nothing_made, numbers_fit, pieces_on, pieces_between}
use Rattle.stitcher.proofs.Putting.{Walks}
use Rattle.stitcher.proofs.making.stitch.Given as goal

abbrev pub invariant-loop-here : goal.invariant-loop-here
invariant-loop-here l = record {
  fits : numbers_fit l.stitching.first ≡ true;
  walks : Walks (nothing_made l.fn.first) l.stitching (pieces_between l.store l.ends l.marked) (pieces_on l.store l.ends.so_far l.previous l.rest);
  fit : list_all item_fits l.stitching.items ≡ true;
  runs : KnowRuns l.previous l.rest;
  common : KnowCommon None l.rest;
  left : AreLeftOf l.marked l.rest;
  pods : l.pods ≡ record { marked = l.marked; store = l.store };
}

abbrev pub decreases-loop-here : goal.decreases-loop-here
decreases-loop-here l = length l.rest
