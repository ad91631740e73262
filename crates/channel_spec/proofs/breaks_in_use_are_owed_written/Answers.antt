use Rattle.channel_spec.proofs.WrittenPods.{in_use_is_written}
use Rattle.channel_spec.proofs.breaks_in_use_are_owed_written.Goals as goal

pub returns : goal.returns
returns c = in_use_is_written
