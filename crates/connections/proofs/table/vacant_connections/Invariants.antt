use Rattle.std.proofs.Common.{◌≡◌, None, replicate}
use Rattle.connections.proofs.table.vacant_connections.Given as goal

abbrev pub invariant-loop : goal.invariant-loop
invariant-loop l = l.places.items ≡ replicate l.counter None
