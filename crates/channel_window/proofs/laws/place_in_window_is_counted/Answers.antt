use Rattle.channel_window.proofs.Placed.{place_is_counted}
use Rattle.channel_window.proofs.laws.place_in_window_is_counted.Goals as goal

pub returns : goal.returns
returns c = place_is_counted
