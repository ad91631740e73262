use Rattle.std.proofs.Common.{◌<◌, ◌++◌, length}
use Rattle.pod_store.specs.Inner.Store.{NameTheSame}
use Rattle.stitcher.specs.StitchedSegments.{KnowRuns}
use Rattle.live_channel.specs.Inner.Marks.{AreSettled, IsAmongMarks, marks_held}
use Rattle.live_channel.proofs.in_use.live_marks_and_last.Given as goal

abbrev pub invariant-loop-marked : goal.invariant-loop-marked
invariant-loop-marked l = record {
  same : NameTheSame (l.marks.items ++ marks_held l.number l.rest) (marks_held l.number l.list);
  runs : KnowRuns l.previous l.rest;
  named : 0 < l.settled → IsAmongMarks l.marks.items l.previous;
  settled : AreSettled l.marks.items l.settled l.list l.rest;
}

abbrev pub decreases-loop-marked : goal.decreases-loop-marked
decreases-loop-marked l = length l.rest
