use Rattle.std.proofs.Common.{length}
use Rattle.pod_store.specs.Store.{nothing_decided}
use Rattle.playlist_tests.proofs.Unmarked.{AreUnmarked}
use Rattle.playlist_tests.proofs.made.unmarked.Given as goal

abbrev pub invariant-loop-done : goal.invariant-loop-done
invariant-loop-done l = AreUnmarked l.done.items

abbrev pub decreases-loop-done : goal.decreases-loop-done
decreases-loop-done l = length l.segments
