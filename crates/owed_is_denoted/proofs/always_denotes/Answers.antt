use Rattle.owed_is_denoted.proofs.Always.{always_denotes}
use Rattle.owed_is_denoted.proofs.always_denotes.Goals as goal

pub returns : goal.returns
returns c = always_denotes
