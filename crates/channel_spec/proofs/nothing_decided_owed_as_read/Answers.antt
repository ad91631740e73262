use Rattle.channel_spec.proofs.FirstAlone.{nothing_decided_nothing_changed}
use Rattle.channel_spec.proofs.nothing_decided_owed_as_read.Goals as goal

pub returns : goal.returns
returns c = nothing_decided_nothing_changed
