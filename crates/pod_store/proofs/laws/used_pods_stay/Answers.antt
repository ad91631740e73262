use Rattle.pod_store.proofs.StoreLaws.{used_pods_stay}
use Rattle.pod_store.proofs.laws.used_pods_stay.Goals as goal

pub returns : goal.returns
returns c = used_pods_stay
