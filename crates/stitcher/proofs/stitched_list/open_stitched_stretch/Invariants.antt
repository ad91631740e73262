use Rattle.std.proofs.Common.{◌≡◌, length}
use Rattle.stitcher.specs.Stretches.{LeftKnowCommon, left_items}
use Rattle.stitcher.proofs.stitched_list.open_stitched_stretch.Given as goal

abbrev pub invariant-loop-stretches : goal.invariant-loop-stretches
invariant-loop-stretches l = record {
  same : left_items l.cursor ≡ left_items l.fn.cursor;
  common : LeftKnowCommon l.cursor;
}

abbrev pub decreases-loop-stretches : goal.decreases-loop-stretches
decreases-loop-stretches l = length l.cursor.later.now
