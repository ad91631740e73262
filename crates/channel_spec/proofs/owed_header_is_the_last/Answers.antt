use Rattle.channel_spec.proofs.OwedLaws.{header_is_the_last}
use Rattle.channel_spec.proofs.owed_header_is_the_last.Goals as goal

pub returns : goal.returns
returns c = header_is_the_last
