use Rattle.std.proofs.Common.{arith}
use Rattle.http_messages.proofs.Fronts.{known_more}
use Rattle.http_messages.proofs.arriving.Arriving.take.Goals as goal

pub request_arrived-requires : goal.request_arrived-requires
request_arrived-requires c = grind (arith, known_more)
