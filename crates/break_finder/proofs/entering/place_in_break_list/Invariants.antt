use Rattle.std.proofs.Common.{◌≡◌}
use Rattle.break_finder.proofs.entering.place_in_break_list.Given as goal

abbrev pub invariant-loop-entrance : goal.invariant-loop-entrance
invariant-loop-entrance l = l.place ≡ l.entrance-index
