use Rattle.served_examples.proofs.Gone.{channels_are_made_once}
use Rattle.served_examples.proofs.clients_that_went_count.Goals as goal

pub returns : goal.returns
returns c = channels_are_made_once
