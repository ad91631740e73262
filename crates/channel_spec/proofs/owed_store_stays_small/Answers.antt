use Rattle.channel_spec.proofs.OwedLaws.{store_stays_small}
use Rattle.channel_spec.proofs.owed_store_stays_small.Goals as goal

pub returns : goal.returns
returns c = store_stays_small
