use Rattle.std.proofs.Common.{arith}
use Rattle.std.proofs.lemmas.Grind.{common_steps}
use Rattle.live_channel.proofs.Accepting.{accepts}
use Rattle.live_channel.proofs.refresh.accept_live_refresh_or_grow.Goals as goal

pub returns-clause-ok : goal.returns-clause-ok
returns-clause-ok c = grind (arith, common_steps, accepts)
