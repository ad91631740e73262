use Rattle.live_channel.proofs.Steps.{decide_follows, undecided_follows, withdraw_follows}
use Rattle.live_channel.proofs.laws.live_decisions_follow.Goals as goal

pub returns : goal.returns
returns c = record { decided = decide_follows; refused = undecided_follows; withdrawn = withdraw_follows }
