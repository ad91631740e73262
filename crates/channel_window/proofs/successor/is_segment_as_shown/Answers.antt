use Rattle.std.proofs.Common.{◌-◌, ◌∙◌, ap, sym, subst, refl, length, arith}
use Rattle.std.proofs.lemmas.Option.{slice_get_read}
use Rattle.playlist_model.specs.InCommon.{AreAlike}
use Rattle.std.specs.Prelude.{nat_lt}
use Rattle.std.proofs.lemmas.Bool.{ltb-true}
use Rattle.std.proofs.lemmas.Grind.{common_steps}
use Rattle.channel_window.proofs.Found.{was_before, was_there, was_after, held_there, held_length}
use Rattle.channel_window.proofs.successor.is_segment_as_shown.Goals as goal

pub same_segment-requires : goal.same_segment-requires
same_segment-requires c =
    let held = c.args.shown.now in
    let place = c.media_sequence-number.result - c.first_shown_number-first.result in
    let here = slice_get_read held (length held) place c.in-Some.other.now refl (ltb-true place (length held) (sym c.in-Some.ensures.lookup.0)) c.in-Some.ensures.lookup.1 in
    subst (AreAlike c.at.result c.args.segment.now) (sym c.get-in-Some.ensures) (c.at.ensures held c.args.segment.now c.in-Some.other.now c.requires.alike here)

pub returns-then-number-first : goal.returns-then-number-first
returns-then-number-first c = grind (arith, common_steps, was_before)

pub returns-in-Some : goal.returns-in-Some
returns-in-Some c =
    let held = c.args.shown.now in
    let first = c.first_shown_number-first.result in
    let place = c.media_sequence-number.result - first in
    let inside = c.in-Some.ensures.lookup.0 ∙ ap (nat_lt place) (sym (held_length held)) in
    let at = held_there held place c.in-Some.other.now (ltb-true place (length held) (sym c.in-Some.ensures.lookup.0)) c.in-Some.ensures.lookup.1 in
    grind (arith, common_steps, was_there)

pub returns-in-None : goal.returns-in-None
returns-in-None c = grind (arith, common_steps, was_after, held_length)
