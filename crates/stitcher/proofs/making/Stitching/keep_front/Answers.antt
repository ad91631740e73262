use Rattle.std.specs.Prelude.{None}
use Rattle.stitcher.proofs.Known.{common_taken}
use Rattle.stitcher.proofs.making.Stitching.keep_front.Goals as goal

pub keep-requires-clause-common : goal.keep-requires-clause-common
keep-requires-clause-common c = rw c.split_at.ensures.front (common_taken c.unmarked_front_to_stitch.result None c.args.segments.now c.requires.common)
