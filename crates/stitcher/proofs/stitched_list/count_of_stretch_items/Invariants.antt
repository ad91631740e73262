use Rattle.std.proofs.Common.{◌≡◌, ◌+◌, length, drop}
use Rattle.stitcher.specs.Stretches.{stretches_items}
use Rattle.stitcher.proofs.stitched_list.count_of_stretch_items.Given as goal

abbrev pub invariant-loop-stretch : goal.invariant-loop-stretch
invariant-loop-stretch l = length (stretches_items l.stretches) ≡ l.count + length (stretches_items (drop l.stretch-index l.stretches))
