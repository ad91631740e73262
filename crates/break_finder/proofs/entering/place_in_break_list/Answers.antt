use Rattle.std.proofs.Common.{◌≡◌, ◌∙◌, ◌<◌, length, refl, ap, sym, arith}
use Rattle.std.proofs.lemmas.Option.{slice_get_read}
use Rattle.std.specs.Prelude.{Some, slice_get}
use Rattle.std.proofs.lemmas.Grind.{common_steps}
use Rattle.break_finder.specs.Entrances.{entrance_id}
use Rattle.break_finder.proofs.Placed.{same_bytes}
use Rattle.break_finder.proofs.entering.place_in_break_list.Goals as goal

pub returns-then-eq : goal.returns-then-eq
returns-then-eq c =
    let below : c.loop-entrance.entrance-index < length c.args.list.now = grind (arith, common_steps) in
    let there : slice_get c.args.list.now c.loop-entrance.place ≡ Some c.entrance-item.result =
    ap (slice_get c.args.list.now) c.loop-entrance.invariant ∙ slice_get_read c.args.list.now (length c.args.list.now) c.loop-entrance.entrance-index c.entrance-item.result refl below c.entrance-item.is in
    let same = same_bytes c.as_str.result.now c.args.id.now (sym c.if-eq.ensures) in
    let id = sym same ∙ (c.as_str.ensures.text ∙ (c.deref.ensures ∙ ap entrance_id c.entrance.view_is)) in
    (c.entrance-item.result, there, ap Some id)
