use Rattle.std.proofs.Common.{◌≡◌, drop}
use Rattle.stitcher.specs.Inner.Cuts.{items_left_from_stretches}
use Rattle.stitcher.proofs.stitched_list.items_left_from_stretches.Given as goal

abbrev pub invariant-loop-stretch : goal.invariant-loop-stretch
invariant-loop-stretch l = items_left_from_stretches l.left (drop l.stretch-index l.stretches) ≡ items_left_from_stretches l.fn.count l.stretches
