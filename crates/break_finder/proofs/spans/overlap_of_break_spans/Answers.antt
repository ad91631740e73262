use Rattle.std.proofs.Common.{subst, sym}
use Rattle.break_finder.specs.Places.{HasPlaces, IsPlaced}
use Rattle.break_finder.proofs.Placed.{placed_in, placed_or, placed_out}
use Rattle.break_finder.proofs.spans.overlap_of_break_spans.Goals as goal

pub returns-clause-places : goal.returns-clause-places
returns-clause-places c = λ found ours theirs.
    let our = subst (HasPlaces found) (sym c.ours.view_is) ours in
    let their = subst (HasPlaces found) (sym c.theirs.view_is) theirs in
    let our_first = placed_in found c.ours.inside.first our.first in
    let their_first = placed_in found c.theirs.inside.first their.first in
    let first = subst (IsPlaced found) (sym c.or.ensures) (placed_or found c.ours.inside.first c.theirs.inside.first our_first their_first) in
    let second = c.second_break_entered.ensures.one found (placed_in found c.ours.inside.second our.second) their_first (placed_in found c.theirs.inside.second their.second) in
    record { first = placed_out found c.or.result first; second = placed_out found c.second_break_entered.result second }
