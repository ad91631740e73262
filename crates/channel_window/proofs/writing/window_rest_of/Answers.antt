use Rattle.std.proofs.Common.{arith}
use Rattle.std.proofs.lemmas.Grind.{common_steps}
use Rattle.channel_window.proofs.Listed.{newest_decided}
use Rattle.channel_window.proofs.Starting.{rest_some}
use Rattle.channel_window.proofs.writing.window_rest_of.Goals as goal

pub returns : goal.returns
returns c = grind (arith, common_steps, rest_some, newest_decided)
