use Rattle.http_messages.proofs.Whole.{asked_one}
use Rattle.http_messages.proofs.laws.bytes_ask_one_thing.Goals as goal

pub returns : goal.returns
returns c = asked_one
