use Rattle.channel_spec.proofs.KeptPods.{kept_have_pods}
use Rattle.channel_spec.proofs.kept_and_owed_have_pods.Goals as goal

pub returns : goal.returns
returns c = kept_have_pods
