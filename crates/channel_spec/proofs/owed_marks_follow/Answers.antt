use Rattle.channel_spec.proofs.Linked.{marks_follow}
use Rattle.channel_spec.proofs.owed_marks_follow.Goals as goal

pub returns : goal.returns
returns c = marks_follow
