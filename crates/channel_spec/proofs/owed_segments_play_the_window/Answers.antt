use Rattle.channel_spec.proofs.OwedLaws.{segments_play_the_window}
use Rattle.channel_spec.proofs.owed_segments_play_the_window.Goals as goal

pub returns : goal.returns
returns c = segments_play_the_window
