use Rattle.std.proofs.Common.{◌≡◌, drop}
use Rattle.std.specs.Prelude.{nat_le}
use Rattle.std.specs.List.{list_all}
use Rattle.connections.specs.Table.{held_of}
use Rattle.connections.proofs.table.holds_most_bytes.Given as goal

abbrev pub invariant-loop-it : goal.invariant-loop-it
invariant-loop-it l = list_all (λ it. nat_le (held_of it) l.most) (drop l.it-index l.places) ≡ list_all (λ it. nat_le (held_of it) l.most) l.places
