use Rattle.std.proofs.lemmas.List.Elements.{All-rest}
use Rattle.break_finder.specs.Entrances.{TellsEntrances}
use Rattle.break_finder.specs.Places.{HasPlaces}
use Rattle.break_finder.proofs.spans.break_spans_from_here.Goals as goal

pub returns-then-span-end-clause-tells : goal.returns-then-span-end-clause-tells
returns-then-span-end-clause-tells c = λ tolerance found all. All-rest (TellsEntrances tolerance found) c.in-Some.span.now c.in-Some.later.now c.args.spans.now c.in-Some.ensures.cases.0 all

pub returns-then-span-end-clause-places : goal.returns-then-span-end-clause-places
returns-then-span-end-clause-places c = λ found all. All-rest (HasPlaces found) c.in-Some.span.now c.in-Some.later.now c.args.spans.now c.in-Some.ensures.cases.0 all
