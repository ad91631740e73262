use Rattle.std.proofs.Common.{◌≡◌, ◌+◌, drop}
use Rattle.stitcher.specs.Inner.Cuts.{stretches_within}
use Rattle.stitcher.proofs.stitched_list.stretches_within.Given as goal

abbrev pub invariant-loop-stretch : goal.invariant-loop-stretch
invariant-loop-stretch l = record { value : stretches_within l.fn.count l.stretches ≡ l.place + stretches_within l.left (drop l.stretch-index l.stretches); place : l.place ≡ l.stretch-index }
