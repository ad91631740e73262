use Rattle.channel_spec.proofs.KeptWhole.{items_go_on}
use Rattle.channel_spec.proofs.owed_items_go_on.Goals as goal

pub returns : goal.returns
returns c = items_go_on
