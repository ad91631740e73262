use Rattle.std.proofs.Common.{arith, map, []}
use Rattle.std.proofs.lemmas.Grind.{common_steps}
use Rattle.stitcher.specs.Stretches.{segment_items, stitched_ad_item, stretches_items}
use Rattle.stitcher.proofs.Putting.{none_left}
use Rattle.stitcher.proofs.Seconds.{second_in_parts}
use Rattle.stitcher.proofs.stitched_list.StitchedItems.second_in_common.Goals as goal

pub returns-in-Some : goal.returns-in-Some
returns-in-Some c =
    let cursor = c.self.inside.cursor in
    second_in_parts c.second_ad_of_stretch_in_common.result c.args.self.now (map stitched_ad_item c.in-Some.ads) (segment_items cursor.numbers cursor.kept.now) (stretches_items cursor.later.now) (grind (arith, common_steps)) (c.second_ad_of_stretch_in_common.ensures _)

pub returns-in_default : goal.returns-in_default
returns-in_default c =
    let cursor = c.self.inside.cursor in
    second_in_parts c.second_kept_of_stretch_in_common.result c.args.self.now [] (segment_items cursor.numbers cursor.kept.now) (stretches_items cursor.later.now) (grind (arith, common_steps, none_left)) (c.second_kept_of_stretch_in_common.ensures cursor.numbers _)
