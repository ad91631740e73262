use Rattle.playlist_model.proofs.KeyLaws.{keys_are_the_last}
use Rattle.playlist_model.proofs.laws.keys_in_force_are_the_last.Goals as goal

pub returns : goal.returns
returns c = keys_are_the_last
