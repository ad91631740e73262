use Rattle.std.proofs.Common.{subst, sym}
use Rattle.http_messages.specs.Requests.{IsUnfinished}
use Rattle.http_messages.proofs.Fronts.{nothing_yet}
use Rattle.http_messages.proofs.arriving.Arriving.new.Goals as goal

pub invariant_of-result : goal.invariant_of-result
invariant_of-result c = (tt, subst IsUnfinished (sym c.new.ensures.items) nothing_yet)
