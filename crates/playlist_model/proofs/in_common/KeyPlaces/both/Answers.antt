use Rattle.playlist_model.proofs.InCommons.{bits_of_both}
use Rattle.playlist_model.proofs.in_common.KeyPlaces.both.Goals as goal

pub returns-clause-places : goal.returns-clause-places
returns-clause-places c = bits_of_both c.args.self.bits c.args.other.bits
