use Rattle.std.proofs.Common.{arith}
use Rattle.std.proofs.lemmas.Grind.{common_steps}
use Rattle.stitcher.proofs.Seconds.{second_of_ads, second_unknown}
use Rattle.stitcher.proofs.stitched_list.second_ad_of_stretch_in_common.Goals as goal

pub returns-then-len-lt2 : goal.returns-then-len-lt2
returns-then-len-lt2 c more = second_unknown c.nothing.result (λ before now. c.nothing.ensures.common _ _ _ _) _

pub returns : goal.returns
returns c = second_of_ads c.second_in_common.result c.args.ads.now c.second_in_common.ensures (grind (arith, common_steps))
