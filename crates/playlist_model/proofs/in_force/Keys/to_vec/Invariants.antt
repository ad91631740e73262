use Rattle.std.proofs.Common.{◌≡◌, ◌++◌}
use Rattle.playlist_model.proofs.in_force.Keys.to_vec.Given as goal

abbrev pub invariant-loop-key : goal.invariant-loop-key
invariant-loop-key l = l.copies.items ++ l.key-iterator ≡ l.initial.key-iterator
