use Rattle.std.proofs.Common.{◌≡◌, ◌+◌, ◌++◌, List, sym, subst, arith}
use Rattle.std.specs.List.{All}
use Rattle.std.proofs.lemmas.Grind.{common_steps}
use Rattle.std.proofs.lemmas.List.{take-append-drop}
use Rattle.std.proofs.lemmas.List.Elements.{All-same}
use Rattle.break_finder.specs.Entrances.{Entrance, TellsEntrances}
use Rattle.break_finder.specs.Places.{HasPlaces}
use Rattle.break_finder.proofs.Halvings.{is_halved}
use Rattle.break_finder.proofs.Placed.{back_stands, front_stands, if_ok}
use Rattle.break_finder.proofs.spans.+break_spans_halved.Goals as goal

pub returns-clause-tells : goal.returns-clause-tells
returns-clause-tells t c = if_ok c.join_break_spans.result c.join_break_spans.ensures.tells (λ v tells found apart stand.
    let before = c.split_at.result.0.now in
    let after = c.split_at.result.1.now in
    let is : c.args.list.now ≡ before ++ after = grind (arith, common_steps, take-append-drop) in
    let front = front_stands found c.args.list.now before after c.args.place is stand in
    let back = back_stands found c.args.list.now before after c.args.place is stand in
    let ours = All-same (TellsEntrances c.args.tolerance before) _ _ c.as_slice.ensures.value (c.in_ok-ours.ensures.tells found apart front) in
    let theirs = All-same (TellsEntrances c.args.tolerance after) _ _ c.as_slice-2.ensures.value (c.in_ok-theirs.ensures.tells found apart back) in
    let our_places = All-same (HasPlaces found) _ _ c.as_slice.ensures.value (c.in_ok-ours.ensures.places found front) in
    let their_places = All-same (HasPlaces found) _ _ c.as_slice-2.ensures.value (c.in_ok-theirs.ensures.places found back) in
    subst (λ (l : List Entrance). All (TellsEntrances c.args.tolerance l) v.items) (sym is) (tells c.args.tolerance found before after apart our_places their_places ours theirs))

pub returns-clause-places : goal.returns-clause-places
returns-clause-places t c = if_ok c.join_break_spans.result c.join_break_spans.ensures.places (λ v places found stand.
    let before = c.split_at.result.0.now in
    let after = c.split_at.result.1.now in
    let is : c.args.list.now ≡ before ++ after = grind (arith, common_steps, take-append-drop) in
    let front = front_stands found c.args.list.now before after c.args.place is stand in
    let back = back_stands found c.args.list.now before after c.args.place is stand in
    let our_places = All-same (HasPlaces found) _ _ c.as_slice.ensures.value (c.in_ok-ours.ensures.places found front) in
    let their_places = All-same (HasPlaces found) _ _ c.as_slice-2.ensures.value (c.in_ok-theirs.ensures.places found back) in
    places found our_places their_places)

pub break_spans_halved-requires : goal.break_spans_halved-requires
break_spans_halved-requires t c = grind (arith, common_steps, is_halved)

pub break_spans_halved-requires-2 : goal.break_spans_halved-requires-2
break_spans_halved-requires-2 t c = grind (arith, common_steps, is_halved)
