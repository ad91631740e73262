use Rattle.std.proofs.Common.{map, refl}
use Rattle.std.proofs.lemmas.List.Elements.{All-nil, All-same}
use Rattle.break_finder.specs.Kept.{break_at}
use Rattle.break_finder.specs.Entrances.{TellsEntrances, entrances_in}
use Rattle.break_finder.specs.Places.{HasPlaces}
use Rattle.break_finder.proofs.Placed.{are_apart}
use Rattle.break_finder.proofs.entering.entrances_without_break_list.Goals as goal

pub invariant_of-result : goal.invariant_of-result
invariant_of-result c =
    let target = c.args.candidates.target in
    let with_init_sections = c.args.candidates.with_init_sections in
    let store = c.args.candidates.store.now in
    let entries = c.args.candidates.breaks.now.entries in
    let found = entrances_in target with_init_sections store (map break_at entries) in
    let tells = TellsEntrances c.args.tolerance found in
    let places = HasPlaces found in
    (All-same tells _ _ c.new-2.ensures.items (All-nil tells), All-same places _ _ c.new-2.ensures.items (All-nil places), are_apart target with_init_sections store entries found c.requires refl)
