use Rattle.std.proofs.Common.{sym, subst}
use Rattle.playlist_tests.proofs.Unmarked.{AreUnmarked, one_more}
use Rattle.playlist_tests.proofs.made.unmarked.Goals as goal

pub loop-done-preserved : goal.loop-done-preserved
loop-done-preserved c = subst AreUnmarked (sym c.in_ok-push.ensures.items) (one_more c.loop-done.done.items _ c.in_ok-new.ensures (λ before. c.nothing.ensures.common before.keys _ before.init_section _) c.loop-done.invariant)
