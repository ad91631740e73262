use Rattle.live_channel.proofs.Owed.{acceptance_is_exact}
use Rattle.live_channel.proofs.laws.live_acceptance_is_exact.Goals as goal

pub returns : goal.returns
returns c = acceptance_is_exact
