use Rattle.owed_is_denoted.proofs.Whole.{owed_is_well_formed}
use Rattle.owed_is_denoted.proofs.owed_is_well_formed.Goals as goal

pub returns : goal.returns
returns c = owed_is_well_formed
