use Rattle.std.proofs.Common.{refl}
use Rattle.stitcher.proofs.Outcomes.{if_ok}
use Rattle.channel_window.proofs.KnownBreaks.{told_the_same}
use Rattle.channel_window.proofs.marking.Marker.next_mark.Goals as goal

pub returns-then-is_unmarked-clause-told : goal.returns-then-is_unmarked-clause-told
returns-then-is_unmarked-clause-told c = if_ok c.same_window_mark.result c.same_window_mark.ensures.again (λ next none. told_the_same c.args.self.now c.args.count c.args.run.now _ next.mark next.again none refl)

pub returns-then-window_segment_stays_in-clause-told : goal.returns-then-window_segment_stays_in-clause-told
returns-then-window_segment_stays_in-clause-told c = if_ok c.same_window_mark-then-window_segment_stays_in.result c.same_window_mark-then-window_segment_stays_in.ensures.again (λ next none. told_the_same c.args.self.now c.args.count c.args.run.now _ next.mark next.again none refl)
