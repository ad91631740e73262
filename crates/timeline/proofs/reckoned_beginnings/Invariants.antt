use Rattle.std.proofs.Common.{length}
use Rattle.timeline.specs.Inner.Reckoned.{Walked}
use Rattle.timeline.proofs.reckoned_beginnings.Given as goal

abbrev pub invariant-loop-segment : goal.invariant-loop-segment
invariant-loop-segment l = Walked l.segments l.rest l.stack.items l.after

abbrev pub decreases-loop-segment : goal.decreases-loop-segment
decreases-loop-segment l = length l.rest
