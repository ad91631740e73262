use Rattle.pod_store.proofs.StoreLaws.{stays_small}
use Rattle.pod_store.proofs.laws.stays_small.Goals as goal

pub returns : goal.returns
returns c = stays_small
