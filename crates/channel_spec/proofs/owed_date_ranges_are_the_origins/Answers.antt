use Rattle.channel_spec.proofs.OwedLaws.{date_ranges_are_the_origins}
use Rattle.channel_spec.proofs.owed_date_ranges_are_the_origins.Goals as goal

pub returns : goal.returns
returns c = date_ranges_are_the_origins
