use Rattle.channel_spec.proofs.RunPods.{runs_keep_their_pods}
use Rattle.channel_spec.proofs.owed_runs_keep_their_pods.Goals as goal

pub returns : goal.returns
returns c = runs_keep_their_pods
