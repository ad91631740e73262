use Rattle.channel_spec.proofs.Agreeing.{windows_follow}
use Rattle.channel_spec.proofs.owed_windows_follow.Goals as goal

pub returns : goal.returns
returns c = windows_follow
