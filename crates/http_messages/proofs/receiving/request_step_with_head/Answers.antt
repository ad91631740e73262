use Rattle.std.proofs.Common.{arith, length-drop}
use Rattle.http_messages.proofs.Fronts.{no_body_yet}
use Rattle.http_messages.proofs.receiving.request_step_with_head.Goals as goal

pub returns-then-count-bytes : goal.returns-then-count-bytes
returns-then-count-bytes c =
    (no_body_yet c.args.bytes.now c.args.head c.in-Body.count c.requires c.in-Body.is (omega (arith, length-drop c.args.head.len c.args.bytes.now)), c.requires)
