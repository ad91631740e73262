use Rattle.owed_is_denoted.proofs.Whole.{owed_is_denoted}
use Rattle.owed_is_denoted.proofs.owed_is_denoted.Goals as goal

pub returns : goal.returns
returns c = owed_is_denoted
