use Rattle.std.proofs.Common.{◌≡◌, ◌≤◌, ◌++◌, length, drop, bytes_eq, codes, arith, length-drop, length-append}
use Rattle.http_messages.proofs.Fronts.{no_body_yet}
use Rattle.http_messages.proofs.Whole.{asks_for}
use Rattle.http_messages.proofs.arriving.foresee_with_head.Goals as goal

pub returns-then-count-bytes : goal.returns-then-count-bytes
returns-then-count-bytes c =
    let bytes = c.args.bytes.now ++ c.args.more.now in
    let len = c.args.head.now.len in
    let both = length-append c.args.bytes.now c.args.more.now in
    no_body_yet bytes c.args.head.now c.in-Body.count c.requires c.in-Body.is (omega (arith, both, length-drop len bytes, c.if-count-bytes.true))

pub returns : goal.returns
returns c =
    let bytes = c.args.bytes.now ++ c.args.more.now in
    let len = c.args.head.now.len in
    let both = length-append c.args.bytes.now c.args.more.now in
    let whole : c.in-Body.count ≤ length (drop len bytes) = omega (arith, both, length-drop len bytes, c.if-count-bytes.false) in
    let gets : c.eq-gets.result ≡ bytes_eq c.args.head.now.method (codes "GET") = grind arith in
    let target : c.in_ok-copy_of.field-0 ≡ c.args.head.now.target = grind arith in
    asks_for bytes c.args.head.now c.in-Body.count _ _ c.requires c.in-Body.is whole gets target
