use Rattle.std.proofs.Common.{◌≡◌, length}
use Rattle.std.specs.List.{All}
use Rattle.stitcher.specs.Inner.StitchedSegments.{KnowAgainWithin}
use Rattle.channel_window.specs.Inner.Terms.{HasItsTerms, HasStood}
use Rattle.channel_window.proofs.MarkedSoFar.{AreMarkedTo}
use Rattle.channel_window.proofs.marking.Marker.all.Given as goal

abbrev pub invariant-loop-segment : goal.invariant-loop-segment
invariant-loop-segment l = record {
  marked : AreMarkedTo l.fn.self l.fn.run l.run l.fn.segments l.segments l.fn.instants l.instants l.fn.done.items l.done.items l.in_common;
  run : HasItsTerms l.fn.self l.run;
  kept : l.self ≡ l.fn.self;
  stood : All (HasStood l.fn.self l.done.items) l.run.known.items;
  again : KnowAgainWithin l.done.items;
}

abbrev pub decreases-loop-segment : goal.decreases-loop-segment
decreases-loop-segment l = length l.segments
