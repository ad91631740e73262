use Rattle.std.proofs.Common.{◌≡◌, drop}
use Rattle.connections.specs.Lines.{is_in_line}
use Rattle.connections.proofs.line.client_stands_in_line.Given as goal

abbrev pub invariant-loop-one : goal.invariant-loop-one
invariant-loop-one l = is_in_line l.place (drop l.one-index l.standing) ≡ is_in_line l.place l.standing
