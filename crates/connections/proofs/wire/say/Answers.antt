use Rattle.connections.specs.Table.{reply_bytes, departure}
use Rattle.connections.proofs.Leading.{by_one}
use Rattle.connections.proofs.wire.say.Goals as goal

pub returns-in-HasFailed-clause-run : goal.returns-in-HasFailed-clause-run
returns-in-HasFailed-clause-run g c = by_one _ _ (departure c.args.seat.now) c.dismiss_client.ensures.removed

pub returns-then-count-eq0-clause-run : goal.returns-then-count-eq0-clause-run
returns-then-count-eq0-clause-run g c = by_one _ _ (departure c.args.seat.now) c.dismiss_client-then-count-eq0.ensures.removed

pub returns-clause-run : goal.returns-clause-run
returns-clause-run g c = by_one _ _ (reply_bytes c.args.seat.now _) c.advance.ensures
