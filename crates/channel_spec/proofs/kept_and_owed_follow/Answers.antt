use Rattle.channel_spec.proofs.KeptWhole.{kept_follows}
use Rattle.channel_spec.proofs.kept_and_owed_follow.Goals as goal

pub returns : goal.returns
returns c = kept_follows
