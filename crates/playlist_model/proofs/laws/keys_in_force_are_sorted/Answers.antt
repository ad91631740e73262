use Rattle.playlist_model.proofs.KeyOrder.{keys_are_sorted}
use Rattle.playlist_model.proofs.laws.keys_in_force_are_sorted.Goals as goal

pub returns : goal.returns
returns c = keys_are_sorted
