use Rattle.std.proofs.Common.{arith, length, refl, sym}
use Rattle.std.proofs.lemmas.Bool.{ltb-true}
use Rattle.std.proofs.lemmas.Grind.{common_steps}
use Rattle.std.proofs.lemmas.Option.{slice_get_read}
use Rattle.channel_window.proofs.Alike.{alike_next}
use Rattle.channel_window.proofs.successor.successor_alike_after.Goals as goal

pub returns-then-number-first : goal.returns-then-number-first
returns-then-number-first c = λ next h. c.successor_not_yet_alike.ensures c.args.shown.now next

pub returns-in_default : goal.returns-in_default
returns-in_default c = λ next h. c.successor_not_yet_alike-in_default.ensures c.args.shown.now next

pub returns-in-None : goal.returns-in-None
returns-in-None c = λ next h. c.successor_not_yet_alike-in-None.ensures c.args.shown.now next

pub returns-in-Some-get : goal.returns-in-Some-get
returns-in-Some-get c = λ next h other found.
    let shown = c.args.shown.now in
    let here = slice_get_read shown (length shown) c.in-Some.place c.in-Some-get.next.now refl (ltb-true c.in-Some.place (length c.args.shown.now) (sym c.in-Some-get.ensures.lookup.0)) c.in-Some-get.ensures.lookup.1 in
    alike_next shown c.args.segment.now next c.first_shown_number-first.result c.in-Some.place c.args.in_common c.after_same.result c.in-Some-get.next.now other c.requires.contiguous c.requires.common c.requires.same c.first_shown_number-first.ensures (grind (arith, common_steps)) (grind (arith, common_steps)) here c.after_same.ensures.alike h found
