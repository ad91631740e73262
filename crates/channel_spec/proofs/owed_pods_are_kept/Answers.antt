use Rattle.channel_spec.proofs.OwedLaws.{pods_are_kept}
use Rattle.channel_spec.proofs.owed_pods_are_kept.Goals as goal

pub returns : goal.returns
returns c = pods_are_kept
