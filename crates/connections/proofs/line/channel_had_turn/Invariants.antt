use Rattle.std.proofs.Common.{◌≡◌, ◌++◌, take, drop}
use Rattle.connections.specs.Lines.{had_turn}
use Rattle.connections.proofs.line.channel_had_turn.Given as goal

abbrev pub invariant-loop-index : goal.invariant-loop-index
invariant-loop-index l = (l.turns ≡ l.fn.turns) × (take l.index l.turns ++ had_turn l.channel (drop l.index l.turns) ≡ had_turn l.channel l.turns)
