use Rattle.std.proofs.Common.{◌≡◌, drop}
use Rattle.std.specs.List.{find}
use Rattle.connections.specs.Arrivals.{is_being_answered}
use Rattle.connections.proofs.arrivals.first_answered_client.Given as goal

abbrev pub invariant-loop-arrival : goal.invariant-loop-arrival
invariant-loop-arrival l = find (is_being_answered l.connections) (drop l.arrival-index l.arrivals) ≡ find (is_being_answered l.connections) l.arrivals
