use Rattle.std.proofs.Common.{◌≡◌, length}
use Rattle.std.specs.List.{list_any}
use Rattle.playlist_write.specs.WellFormed.{written_segment_has_init_section}
use Rattle.playlist_write.proofs.well_formed.one_written_has_init_section.Given as goal

abbrev pub invariant-loop-out : goal.invariant-loop-out
invariant-loop-out l = list_any written_segment_has_init_section l.fn.segments ≡ list_any written_segment_has_init_section l.segments

abbrev pub decreases-loop-out : goal.decreases-loop-out
decreases-loop-out l = length l.segments
