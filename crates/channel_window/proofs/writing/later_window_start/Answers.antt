use Rattle.std.proofs.Common.{arith}
use Rattle.std.proofs.lemmas.Grind.{common_steps}
use Rattle.channel_window.proofs.Passing.{front_decided, front_known_previous}
use Rattle.channel_window.proofs.Starting.{rest_none, rest_lower}
use Rattle.channel_window.proofs.writing.later_window_start.Goals as goal

pub returns-then-item-place-clause-rest : goal.returns-then-item-place-clause-rest
returns-then-item-place-clause-rest c = grind (arith, common_steps, rest_none)

pub window_rest_of-requires : goal.window_rest_of-requires
window_rest_of-requires c = record {
  room = grind (arith, common_steps);
  decided = grind (arith, common_steps, front_decided);
  previous = front_known_previous c.args.list.now c.window_front_before-gone.result.now c.requires.previous c.window_front_before-gone.ensures.front;
}

pub returns-clause-rest : goal.returns-clause-rest
returns-clause-rest c = grind (arith, common_steps, rest_lower)
