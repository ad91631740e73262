use Rattle.channel_window.proofs.Marked.{marks_are_shown}
use Rattle.channel_window.proofs.laws.marks_in_window_are_shown.Goals as goal

pub returns : goal.returns
returns c = marks_are_shown
