use Rattle.playlist_model.proofs.LimitLaws.{reads_what_is_denoted}
use Rattle.playlist_model.proofs.laws.what_is_read_is_denoted.Goals as goal

pub returns : goal.returns
returns c = reads_what_is_denoted
