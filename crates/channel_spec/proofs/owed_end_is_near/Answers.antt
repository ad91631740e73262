use Rattle.channel_spec.proofs.RunPods.{written_end_is_near}
use Rattle.channel_spec.proofs.owed_end_is_near.Goals as goal

pub returns : goal.returns
returns c = written_end_is_near
