use Rattle.std.proofs.Common.{◌≡◌, length}
use Rattle.std.specs.List.{list_all}
use Rattle.stitcher.specs.Inner.Making.{is_in_discontinuity}
use Rattle.stitcher.proofs.making.have_one_discontinuity.Given as goal

abbrev pub invariant-loop-here : goal.invariant-loop-here
invariant-loop-here l = list_all (is_in_discontinuity l.discontinuity) l.segments ≡ list_all (is_in_discontinuity l.discontinuity) l.rest

abbrev pub decreases-loop-here : goal.decreases-loop-here
decreases-loop-here l = length l.rest
