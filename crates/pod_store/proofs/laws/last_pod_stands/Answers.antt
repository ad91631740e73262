use Rattle.pod_store.proofs.StoreLaws.{last_pod_stands}
use Rattle.pod_store.proofs.laws.last_pod_stands.Goals as goal

pub returns : goal.returns
returns c = last_pod_stands
