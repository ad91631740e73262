use Rattle.std.proofs.Common.{◌≡◌, length}
use Rattle.std.specs.List.{list_all}
use Rattle.playlist_write.specs.WellFormed.{written_segment_has_init_section}
use Rattle.playlist_write.proofs.well_formed.all_written_have_init_sections.Given as goal

abbrev pub invariant-loop-out : goal.invariant-loop-out
invariant-loop-out l = list_all written_segment_has_init_section l.fn.segments ≡ list_all written_segment_has_init_section l.segments

abbrev pub decreases-loop-out : goal.decreases-loop-out
decreases-loop-out l = length l.segments
