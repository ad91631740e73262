use Rattle.std.proofs.Common.{◌≡◌, ◌++◌, [], map, arith}
use Rattle.std.proofs.lemmas.Grind.{common_steps}
use Rattle.stitcher.specs.Stretches.{stitched_ad_item, segment_items, stretches_items}
use Rattle.stitcher.proofs.Cursors.{stretch_ended}
use Rattle.stitcher.proofs.making.Stitching.push_kept.Goals as goal

pub returns-clause-ok : goal.returns-clause-ok
returns-clause-ok c =
    let inside = c.self.inside in
    let kept = c.args.kept.now in
    let ads : c.into_segments.result ≡ inside.ads.segments = cc in
    let none : c.replace-ads.new.dest.segments ≡ [] = cc in
    let items : stretches_items c.push.new.self.items ++ map stitched_ad_item c.replace-ads.new.dest.segments ≡ (stretches_items inside.stretches.items ++ map stitched_ad_item inside.ads.segments) ++ segment_items c.args.numbers kept =
    stretch_ended inside.stretches.items c.push.new.self.items (record { ads = c.into_segments.result; kept = c.args.kept; numbers = c.args.numbers }) inside.ads.segments c.replace-ads.new.dest.segments c.in_ok-push.ensures.items ads none in
    grind (arith, common_steps)
