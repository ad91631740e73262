use Rattle.connections.specs.Table.{request_bytes, departure}
use Rattle.connections.proofs.Leading.{by_one}
use Rattle.connections.proofs.wire.hear.Goals as goal

pub returns-in-HasFailed-clause-run : goal.returns-in-HasFailed-clause-run
returns-in-HasFailed-clause-run g c = by_one _ _ (departure c.args.seat.now) c.dismiss_client.ensures.removed

pub returns-then-count-eq0-clause-run : goal.returns-then-count-eq0-clause-run
returns-then-count-eq0-clause-run g c = by_one _ _ (departure c.args.seat.now) c.dismiss_client-then-count-eq0.ensures.removed

pub returns-in-Ok-clause-run : goal.returns-in-Ok-clause-run
returns-in-Ok-clause-run g c = by_one _ _ (request_bytes c.args.seat.now _) c.in-Ok.ensures.ok

pub returns-in-Err-clause-run : goal.returns-in-Err-clause-run
returns-in-Err-clause-run g c = by_one _ _ (departure c.args.seat.now) c.in-Err.ensures.err
