use Rattle.std.proofs.Common.{◌≡◌, ◌∷◌, true, length}
use Rattle.std.specs.List.{list_all}
use Rattle.stitcher.specs.StitchedSegments.{item_fits}
use Rattle.stitcher.specs.Inner.Making.{numbers_fit, last_of_stitched_run}
use Rattle.stitcher.specs.Stretches.{segment_items}
use Rattle.stitcher.proofs.making.last_of_stitched_walk.Given as goal

abbrev pub invariant-loop-next : goal.invariant-loop-next
invariant-loop-next l = record {
  fits : numbers_fit l.numbers ≡ true;
  last : last_of_stitched_run l.fn.numbers l.first l.later ≡ last_of_stitched_run l.numbers l.here l.rest;
  all : list_all item_fits (segment_items l.fn.numbers (l.first ∷ l.later)) ≡ list_all item_fits (segment_items l.numbers (l.here ∷ l.rest));
}

abbrev pub decreases-loop-next : goal.decreases-loop-next
decreases-loop-next l = length l.rest
