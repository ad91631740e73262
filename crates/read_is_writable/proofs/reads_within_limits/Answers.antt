use Rattle.read_is_writable.proofs.WithinLimits.{within_limits}
use Rattle.read_is_writable.proofs.reads_within_limits.Goals as goal

pub returns : goal.returns
returns c = within_limits
