use Rattle.channel_window.proofs.Marked.{lengths_are_kept}
use Rattle.channel_window.proofs.laws.run_lengths_in_window_are_kept.Goals as goal

pub returns : goal.returns
returns c = lengths_are_kept
