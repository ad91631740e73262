use Rattle.std.proofs.Common.{◌≡◌, drop}
use Rattle.std.specs.Prelude.{find}
use Rattle.connections.specs.Lines.{is_of}
use Rattle.connections.proofs.line.first_on_channel.Given as goal

abbrev pub invariant-loop-one : goal.invariant-loop-one
invariant-loop-one l = find (is_of l.channel) (drop l.one-index l.standing) ≡ find (is_of l.channel) l.standing
