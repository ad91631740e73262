use Rattle.std.proofs.Common.{◌≡◌, drop}
use Rattle.connections.specs.Lines.{next_in}
use Rattle.connections.proofs.line.next_in_line.Given as goal

abbrev pub invariant-loop-channel : goal.invariant-loop-channel
invariant-loop-channel l = next_in l.standing (drop l.channel-index l.turns) ≡ next_in l.standing l.turns
