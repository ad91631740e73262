use Rattle.pod_store.proofs.StoreLaws.{keeping_is_adopting}
use Rattle.pod_store.proofs.laws.keeping_is_adopting.Goals as goal

pub returns : goal.returns
returns c = keeping_is_adopting
