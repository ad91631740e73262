use Rattle.std.proofs.Common.{subst, arith}
use Rattle.http_messages.specs.Inner.Received.{IsReadAs}
use Rattle.http_messages.specs.Limits.{head_limit}
use Rattle.http_messages.proofs.Fronts.{never_in_limit, read_by_front, judged_short}
use Rattle.http_messages.proofs.receiving.request_head_in_front.Goals as goal

pub returns-in-Partial : goal.returns-in-Partial
returns-in-Partial c = grind (arith, never_in_limit)

pub returns-in_default : goal.returns-in_default
returns-in_default c = judged_short c.args.bytes.now c.read_request_head.result (omega (arith, c.in_default.ensures.lookup)) c.read_request_head.ensures

pub returns-in_default-2 : goal.returns-in_default-2
returns-in_default-2 c =
    let front = subst (λ l. IsReadAs l c.in_ok-read.read) c.in-Some.ensures.lookup.0.2 c.in_ok-read.ensures in
    read_by_front head_limit c.args.bytes.now c.in_ok-read.read c.in_default-2.not-Partial front
