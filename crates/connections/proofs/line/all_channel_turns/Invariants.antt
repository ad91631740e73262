use Rattle.std.proofs.Common.{◌≡◌, ◌-◌, ◌++◌}
use Rattle.connections.specs.Lines.{turn_count}
use Rattle.connections.specs.Seats.{places_below}
use Rattle.connections.proofs.line.all_channel_turns.Given as goal

abbrev pub invariant-loop-index : goal.invariant-loop-index
invariant-loop-index l = l.turns.items ++ places_below (turn_count - l.index) ≡ places_below turn_count
