use Rattle.std.proofs.Common.{◌≤◌, length, arith}
use Rattle.playlist_model.proofs.JoinedTexts.{equal_by_longer}
use Rattle.playlist_model.proofs.uri_ref.are_same_parts.Goals.{then-eq, else-eq}
use Rattle.playlist_model.proofs.uri_ref.are_same_parts.Goals as goal

pub returns-then-eq-2 : goal.returns-then-eq-2
returns-then-eq-2 c =
    let fits : length c.split_at.result.1.now ≤ length c.args.rest.now = omega (arith, c.if-rest-middle.false) in
    let by = equal_by_longer c.args.front.now c.args.rest.now c.args.other_front.now c.args.other_rest.now c.split_at.result.0.now c.split_at.result.1.now c.split_at-2.result.0.now c.split_at-2.result.1.now c.requires c.split_at.ensures.front c.split_at.ensures.back fits c.split_at-2.ensures.front c.split_at-2.ensures.back in
    elim c.if-eq.branch [ then-eq w ↦ grind (arith, by, w.if-eq.true, w.value-is, w.eq-then-eq.ensures, c.if-eq-2.true, c.eq.ensures, c.eq-then-eq-2.ensures) | else-eq w ↦ grind (arith, w.value-is, c.if-eq-2.true) ]

pub returns-else-eq-2 : goal.returns-else-eq-2
returns-else-eq-2 c =
    let fits : length c.split_at.result.1.now ≤ length c.args.rest.now = omega (arith, c.if-rest-middle.false) in
    let by = equal_by_longer c.args.front.now c.args.rest.now c.args.other_front.now c.args.other_rest.now c.split_at.result.0.now c.split_at.result.1.now c.split_at-2.result.0.now c.split_at-2.result.1.now c.requires c.split_at.ensures.front c.split_at.ensures.back fits c.split_at-2.ensures.front c.split_at-2.ensures.back in
    elim c.if-eq.branch [ then-eq w ↦ grind (arith, by, w.if-eq.true, w.value-is, w.eq-then-eq.ensures, c.if-eq-2.false, c.eq.ensures) | else-eq w ↦ grind (arith, by, w.if-eq.false, w.value-is, c.eq.ensures) ]
