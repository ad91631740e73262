use Rattle.playlist_write.proofs.Whole.{text_denotes}
use Rattle.playlist_write.proofs.laws.text_denotes.Goals as goal

pub returns : goal.returns
returns c = text_denotes
