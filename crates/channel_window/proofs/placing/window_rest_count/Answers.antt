use Rattle.std.proofs.Common.{arith}
use Rattle.std.proofs.lemmas.Grind.{common_steps}
use Rattle.channel_window.proofs.Runs.{rest_size}
use Rattle.channel_window.proofs.placing.window_rest_count.Goals as goal

pub returns-in-Some-pod_for-clause-value : goal.returns-in-Some-pod_for-clause-value
returns-in-Some-pod_for-clause-value c = grind (arith, common_steps, rest_size)
