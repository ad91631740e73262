use Rattle.std.proofs.Common.{◌≡◌, ◌≤◌, length, drop, bytes_eq, codes, refl, subst, arith, length-drop}
use Rattle.http_messages.specs.Inner.Received.{IsStep}
use Rattle.http_messages.proofs.Whole.{asks_for}
use Rattle.http_messages.proofs.arriving.foresee_request.Goals as goal

pub returns-in-Whole : goal.returns-in-Whole
returns-in-Whole c =
    let bytes = c.args.bytes.now in
    let head = c.in-Whole.head in
    let step = subst (IsStep bytes) c.in-Whole.is c.in_ok-head.ensures in
    let whole : c.in-Whole.field-1 ≤ length (drop head.len bytes) = omega (arith, length-drop head.len bytes, step.2) in
    let gets : c.eq.result ≡ bytes_eq head.method (codes "GET") = grind arith in
    asks_for bytes head c.in-Whole.field-1 _ _ step.0 step.1 whole gets refl
