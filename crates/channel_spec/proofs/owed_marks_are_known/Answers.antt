use Rattle.channel_spec.proofs.MarkKnown.{marks_are_known}
use Rattle.channel_spec.proofs.owed_marks_are_known.Goals as goal

pub returns : goal.returns
returns c = marks_are_known
