use Rattle.channel_window.proofs.MarkedSoFar.{are_marks}
use Rattle.channel_window.proofs.marking.Marker.mark.Goals as goal

pub returns : goal.returns
returns c =
    let h = are_marks _ _ _ _ _ _ _ _ _ _ c.in_ok-all.ensures.marked c.in_ok-all.ensures.again c.in_ok-list.ensures.items c.in_ok-run.ensures.before c.in_ok-run.ensures.entered c.in_ok-run.ensures.so_far in
    record { list = h.list; common = h.common; again = h.again; entered = h.entered; so_far = h.so_far }
