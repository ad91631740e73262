use Rattle.std.proofs.Common.{◌≡◌, drop}
use Rattle.stitcher.proofs.stitched_list.StitchedItems.pass.Given as goal

abbrev pub invariant-loop : goal.invariant-loop
invariant-loop l = l.self ≡ drop l.counter l.fn.self
