use Rattle.std.proofs.Common.{◌≡◌, ◌+◌, length}
use Rattle.stitcher.specs.Inner.Making.{unmarked_front_to_stitch}
use Rattle.stitcher.proofs.making.unmarked_front_to_stitch.Given as goal

abbrev pub invariant-loop-here : goal.invariant-loop-here
invariant-loop-here l = record {
  count : unmarked_front_to_stitch l.segments ≡ l.count + unmarked_front_to_stitch l.rest;
  within : l.count + length l.rest ≡ length l.segments;
}

abbrev pub decreases-loop-here : goal.decreases-loop-here
decreases-loop-here l = length l.rest
