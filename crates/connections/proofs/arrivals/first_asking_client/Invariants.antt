use Rattle.std.proofs.Common.{◌≡◌, drop}
use Rattle.std.specs.List.{find}
use Rattle.connections.specs.Arrivals.{asks}
use Rattle.connections.proofs.arrivals.first_asking_client.Given as goal

abbrev pub invariant-loop-arrival : goal.invariant-loop-arrival
invariant-loop-arrival l = find (asks l.connections) (drop l.arrival-index l.arrivals) ≡ find (asks l.connections) l.arrivals
