use Rattle.std.proofs.Common.{◌≡◌, length}
use Rattle.std.specs.List.{list_all}
use Rattle.playlist_write.specs.WellFormed.{well_formed_segment_fits}
use Rattle.playlist_write.proofs.well_formed.well_formed_segments_fit.Given as goal

abbrev pub invariant-loop-out : goal.invariant-loop-out
invariant-loop-out l = list_all well_formed_segment_fits l.fn.segments ≡ list_all well_formed_segment_fits l.segments

abbrev pub decreases-loop-out : goal.decreases-loop-out
decreases-loop-out l = length l.segments
