use Rattle.channel_spec.proofs.Linked.{histories_are_linked}
use Rattle.channel_spec.proofs.owed_histories_are_linked.Goals as goal

pub returns : goal.returns
returns c = histories_are_linked
