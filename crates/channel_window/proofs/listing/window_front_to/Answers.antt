use Rattle.std.proofs.Common.{◌≡◌, ap, sym, ◌∙◌, arith}
use Rattle.std.specs.Prelude.{Some, slice_get}
use Rattle.std.specs.Option.{option_copied}
use Rattle.std.proofs.lemmas.Grind.{common_steps}
use Rattle.playlist_model.specs.Segments.{Segment}
use Rattle.channel_window.specs.Marking.{history_in}
use Rattle.channel_window.proofs.Rising.{first_is, up_at}
use Rattle.channel_window.proofs.listing.window_front_to.Goals as goal

pub returns-then-number-media_sequence-clause-seen : goal.returns-then-number-media_sequence-clause-seen
returns-then-number-media_sequence-clause-seen c store =
    let list = c.args.list.now in
    let at : slice_get list 0 ≡ Some c.in-Some.first.now = sym c.first.ensures.value ∙ ap option_copied c.in-Some.is in
    let first = c.media_sequence.ensures ∙ (ap (λ (s : Segment). s.media_sequence) c.get.ensures ∙ first_is c.requires.0 list c.in-Some.first.now c.requires.1 at) in
    ap (history_in store) c.split_at.ensures.front ∙ up_at store list c.requires.0 c.args.number c.requires.1 0 (omega (arith, first, c.if-number-media_sequence.true))

pub returns-clause-seen : goal.returns-clause-seen
returns-clause-seen c store = grind (arith, common_steps, first_is, up_at)
