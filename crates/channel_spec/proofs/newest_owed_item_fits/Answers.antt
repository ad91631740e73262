use Rattle.channel_spec.proofs.LastNumbers.{newest_fits}
use Rattle.channel_spec.proofs.newest_owed_item_fits.Goals as goal

pub returns : goal.returns
returns c = newest_fits
