use Rattle.std.proofs.Common.{◌+◌, ◌-◌, List, length}
use Rattle.std.specs.List.{All}
use Rattle.stitcher.specs.declared.marked.MarkedSegment.{MarkedSegment as Held}
use Rattle.channel_spec.specs.Marking.{Moment}
use Rattle.channel_window.specs.Inner.Terms.{HasKnownTerms, HasStood}
use Rattle.channel_window.proofs.marking.note_known_break.Given as goal

abbrev pub invariant-loop-known : goal.invariant-loop-known
invariant-loop-known l = record {
  terms : (m : Moment) → All (HasKnownTerms m) l.fn.known.items → All (HasKnownTerms m) l.known.items;
  stood : (m : Moment) (done : List Held) → All (HasStood m done) l.fn.known.items → All (HasStood m done) l.known.items;
}

abbrev pub decreases-loop-known : goal.decreases-loop-known
decreases-loop-known l = l.place + 1 - length l.known.items
