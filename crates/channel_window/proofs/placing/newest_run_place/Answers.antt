use Rattle.std.proofs.Common.{arith}
use Rattle.std.proofs.lemmas.Grind.{common_steps}
use Rattle.stitcher.proofs.PodsOfRuns.{left_later}
use Rattle.channel_window.proofs.Runs.{begun_anew}
use Rattle.channel_window.proofs.placing.newest_run_place.Goals as goal

pub overflow_add-start : goal.overflow_add-start
overflow_add-start c = grind (arith, common_steps, begun_anew)

pub loop-here-preserved : goal.loop-here-preserved
loop-here-preserved c = record {
  place = grind (arith, common_steps);
  few = grind (arith, common_steps);
  runs = grind (arith, common_steps);
  left = left_later c.args.held.now c.loop-here.rest.now c.in-Some.here.now c.in-Some.later.now c.in-Some.ensures.cases.0 c.loop-here.invariant.left;
  pods = grind (arith, common_steps);
}
