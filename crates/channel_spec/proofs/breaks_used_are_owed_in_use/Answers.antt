use Rattle.channel_spec.proofs.InUse.{used_are_in_use}
use Rattle.channel_spec.proofs.breaks_used_are_owed_in_use.Goals as goal

pub returns : goal.returns
returns c = used_are_in_use
