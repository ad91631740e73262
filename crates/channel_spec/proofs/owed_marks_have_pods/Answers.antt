use Rattle.channel_spec.proofs.UsedPods.{marks_have_pods}
use Rattle.channel_spec.proofs.owed_marks_have_pods.Goals as goal

pub returns : goal.returns
returns c = marks_have_pods
