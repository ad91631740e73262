use Rattle.std.proofs.Common.{arith, subst}
use Rattle.std.proofs.lemmas.Grind.{common_steps}
use Rattle.live_channel.specs.Inner.Marks.{AreSettled}
use Rattle.live_channel.proofs.Marks.{one_marked, settled_again, settled_on}
use Rattle.live_channel.proofs.in_use.live_marks_and_last.Goals as goal

pub push_live_mark_of_segment-requires-clause-again : goal.push_live_mark_of_segment-requires-clause-again
push_live_mark_of_segment-requires-clause-again c =
    let marks = c.loop-marked.marks.items in
    let list = c.args.list.now in
    let here = subst (AreSettled marks c.loop-marked.settled list) c.in-Some.ensures.cases.0 c.loop-marked.invariant.settled in
    settled_again marks c.loop-marked.settled list c.in-Some.later.now c.in-Some.marked.now c.requires.again here

pub loop-marked-preserved : goal.loop-marked-preserved
loop-marked-preserved c = record {
  same = grind (arith, common_steps, one_marked);
  runs = grind (arith, common_steps);
  named = grind (arith, common_steps);
  settled = grind (arith, common_steps, settled_on);
}
