use Rattle.std.proofs.Common.{subst, sym}
use Rattle.break_finder.specs.Places.{HasPlaces}
use Rattle.break_finder.proofs.Placed.{placed_in}
use Rattle.break_finder.proofs.spans.BreakSpan.break_entered.Goals as goal

pub returns-clause-placed : goal.returns-clause-placed
returns-clause-placed c = λ found has.
    let held = subst (HasPlaces found) (sym c.self.view_is) has in
    c.break_entered_but_last.ensures.one found (placed_in found c.self.inside.first held.first) (placed_in found c.self.inside.second held.second)
