use Rattle.std.proofs.Common.{◌≡◌, drop}
use Rattle.std.specs.List.{find}
use Rattle.connections.specs.Arrivals.{is_quiet}
use Rattle.connections.proofs.arrivals.first_quiet_client.Given as goal

abbrev pub invariant-loop-arrival : goal.invariant-loop-arrival
invariant-loop-arrival l =
    find (is_quiet l.connections l.now l.line) (drop l.arrival-index l.arrivals) ≡ find (is_quiet l.connections l.now l.line) l.arrivals
