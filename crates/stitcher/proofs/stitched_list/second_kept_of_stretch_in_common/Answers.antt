use Rattle.stitcher.proofs.Seconds.{second_unknown}
use Rattle.stitcher.proofs.stitched_list.second_kept_of_stretch_in_common.Goals as goal

pub returns-in_default : goal.returns-in_default
returns-in_default c numbers more = second_unknown c.nothing.result (λ before now. c.nothing.ensures.common _ _ _ _) _
