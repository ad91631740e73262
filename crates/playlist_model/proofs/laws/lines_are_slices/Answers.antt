use Rattle.playlist_model.proofs.LineLaws.{lines_are_slices}
use Rattle.playlist_model.proofs.laws.lines_are_slices.Goals as goal

pub returns : goal.returns
returns c = lines_are_slices
