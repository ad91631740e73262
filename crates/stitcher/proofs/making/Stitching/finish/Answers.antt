use Rattle.std.proofs.Common.{arith}
use Rattle.std.proofs.lemmas.Grind.{common_steps}
use Rattle.stitcher.proofs.Cursors.{last_stretch}
use Rattle.stitcher.proofs.making.Stitching.finish.Goals as goal

pub from_stretches-requires : goal.from_stretches-requires
from_stretches-requires c = grind (arith, common_steps, last_stretch)

pub returns-clause-ok : goal.returns-clause-ok
returns-clause-ok c = grind (arith, common_steps, last_stretch)
