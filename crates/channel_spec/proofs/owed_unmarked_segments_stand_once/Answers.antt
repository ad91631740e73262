use Rattle.channel_spec.proofs.OwedLaws.{unmarked_stand_once}
use Rattle.channel_spec.proofs.owed_unmarked_segments_stand_once.Goals as goal

pub returns : goal.returns
returns c = unmarked_stand_once
