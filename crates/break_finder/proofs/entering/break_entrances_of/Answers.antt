use Rattle.std.proofs.Common.{subst, ◌∙◌, List}
use Rattle.std.specs.List.{All}
use Rattle.break_finder.specs.Entrances.{Entrance, TellsEntrances}
use Rattle.break_finder.specs.Places.{HasPlaces}
use Rattle.break_finder.proofs.Placed.{are_apart}
use Rattle.break_finder.proofs.entering.break_entrances_of.Goals as goal

pub entrance_spans_for-requires : goal.entrance_spans_for-requires
entrance_spans_for-requires c =
    are_apart c.args.target c.args.with_init_sections c.args.store.now c.args.breaks.now.entries c.as_slice.result.now c.list_break_entrances.ensures.unique (c.as_slice.ensures.value ∙ c.in_ok-list.ensures.list)

pub invariant_of-result : goal.invariant_of-result
invariant_of-result c =
    let same = c.as_slice.ensures.value in
    let tells = subst (λ (found : List Entrance). All (TellsEntrances c.args.tolerance found) c.in_ok-spans.spans.items) same c.in_ok-spans.ensures.tells in
    let places = subst (λ (found : List Entrance). All (HasPlaces found) c.in_ok-spans.spans.items) same c.in_ok-spans.ensures.places in
    (tells, places, are_apart c.args.target c.args.with_init_sections c.args.store.now c.args.breaks.now.entries c.in_ok-list.list.items c.list_break_entrances.ensures.unique c.in_ok-list.ensures.list)
