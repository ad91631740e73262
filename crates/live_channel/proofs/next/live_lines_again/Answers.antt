use Rattle.std.proofs.Common.{arith}
use Rattle.std.proofs.lemmas.Grind.{common_steps}
use Rattle.live_channel.proofs.LastText.{stand_again}
use Rattle.live_channel.proofs.next.live_lines_again.Goals as goal

pub returns : goal.returns
returns c = grind (arith, common_steps, stand_again)
