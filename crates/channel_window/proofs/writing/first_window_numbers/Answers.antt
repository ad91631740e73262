use Rattle.std.proofs.Common.{arith}
use Rattle.std.proofs.lemmas.Grind.{common_steps}
use Rattle.channel_window.proofs.Passing.{front_fails, pod_passes}
use Rattle.channel_window.proofs.writing.first_window_numbers.Goals as goal

pub returns-then-window_begins_with_ad-clause-err : goal.returns-then-window_begins_with_ad-clause-err
returns-then-window_begins_with_ad-clause-err c = grind (arith, common_steps, pod_passes, front_fails)
