use Rattle.read_is_writable.proofs.Whole.{can_be_written}
use Rattle.read_is_writable.proofs.read_can_be_written.Goals as goal

pub returns : goal.returns
returns c = can_be_written
