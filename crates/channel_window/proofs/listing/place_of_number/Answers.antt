use Rattle.std.proofs.Common.{arith}
use Rattle.std.proofs.lemmas.Grind.{common_steps}
use Rattle.channel_window.proofs.Rising.{first_is, gone_at, shown_at}
use Rattle.channel_window.proofs.listing.place_of_number.Goals as goal

pub returns : goal.returns
returns c = grind (arith, common_steps, first_is, shown_at, gone_at)
