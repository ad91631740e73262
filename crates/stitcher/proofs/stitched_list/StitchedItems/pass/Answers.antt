use Rattle.std.proofs.Common.{drop, ap, ◌∙◌}
use Rattle.std.proofs.lemmas.List.{drop-drop}
use Rattle.stitcher.proofs.Cursors.{drops_one}
use Rattle.stitcher.proofs.stitched_list.StitchedItems.pass.Goals as goal

pub loop-preserved : goal.loop-preserved
loop-preserved c =
    drops_one c.next.result c.loop.self c.next.new.self c.next.ensures ∙ (ap (drop 1) c.loop.invariant ∙ drop-drop 1 c.loop.counter c.args.self.now)
