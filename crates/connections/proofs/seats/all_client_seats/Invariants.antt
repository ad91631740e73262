use Rattle.std.proofs.Common.{◌≡◌, ◌-◌, ◌++◌}
use Rattle.connections.specs.Limits.{place_count}
use Rattle.connections.specs.Seats.{places_below}
use Rattle.connections.proofs.seats.all_client_seats.Given as goal

abbrev pub invariant-loop-index : goal.invariant-loop-index
invariant-loop-index g l = l.seats.items ++ places_below (place_count - l.index) ≡ places_below place_count
