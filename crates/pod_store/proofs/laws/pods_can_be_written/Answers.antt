use Rattle.pod_store.proofs.Written.{pods_can_be_written}
use Rattle.pod_store.proofs.laws.pods_can_be_written.Goals as goal

pub returns : goal.returns
returns c = pods_can_be_written
