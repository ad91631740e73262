use Rattle.std.proofs.Common.{◌≡◌, length}
use Rattle.std.specs.List.{list_all}
use Rattle.timeline.specs.Inner.Reckoned.{is_beginning_unstated}
use Rattle.timeline.proofs.are_beginnings_unstated.Given as goal

abbrev pub invariant-loop-segment : goal.invariant-loop-segment
invariant-loop-segment l = list_all is_beginning_unstated l.rest ≡ list_all is_beginning_unstated l.segments

abbrev pub decreases-loop-segment : goal.decreases-loop-segment
decreases-loop-segment l = length l.rest
