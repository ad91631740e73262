use Rattle.std.proofs.Common.{arith}
use Rattle.std.proofs.lemmas.Grind.{common_steps}
use Rattle.channel_window.proofs.listing.window_front_before.Goals as goal

pub returns-clause-seen : goal.returns-clause-seen
returns-clause-seen c store = grind (arith, common_steps)
