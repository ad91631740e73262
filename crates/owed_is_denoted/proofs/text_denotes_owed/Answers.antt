use Rattle.owed_is_denoted.proofs.Whole.{text_denotes_owed}
use Rattle.owed_is_denoted.proofs.text_denotes_owed.Goals as goal

pub returns : goal.returns
returns c = text_denotes_owed
