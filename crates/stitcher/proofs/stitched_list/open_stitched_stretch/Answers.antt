use Rattle.std.proofs.Common.{arith}
use Rattle.std.proofs.lemmas.Grind.{common_steps}
use Rattle.stitcher.proofs.Cursors.{none_kept, none_of_ads}
use Rattle.stitcher.proofs.stitched_list.open_stitched_stretch.Goals as goal

pub returns-else-is_empty-clause-open : goal.returns-else-is_empty-clause-open
returns-else-is_empty-clause-open c = grind (arith, common_steps, none_kept)

pub returns-after-loop-stretches-clause-open : goal.returns-after-loop-stretches-clause-open
returns-after-loop-stretches-clause-open c = grind (arith, common_steps, none_of_ads)
