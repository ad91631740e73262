use Rattle.std.proofs.Common.{◌≡◌, length}
use Rattle.std.specs.List.{list_all}
use Rattle.playlist_model.specs.Reading.{has_init_section}
use Rattle.playlist_parse.proofs.progress.all_read_have_init_sections.Given as goal

abbrev pub invariant-loop-segment : goal.invariant-loop-segment
invariant-loop-segment l = list_all has_init_section l.rest ≡ list_all has_init_section l.fn.segments

abbrev pub decreases-loop-segment : goal.decreases-loop-segment
decreases-loop-segment l = length l.rest
