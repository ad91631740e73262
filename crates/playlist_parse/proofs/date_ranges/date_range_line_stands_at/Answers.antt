use Rattle.std.proofs.Common.{arith}
use Rattle.std.proofs.lemmas.Bool.{ltb-true}
use Rattle.std.proofs.lemmas.Slice.Eq.{bytes_eq-Decides}
use Rattle.std.proofs.lemmas.Grind.{common_steps}
use Rattle.playlist_parse.proofs.ParsedDateRanges.{slice_there}
use Rattle.playlist_parse.proofs.date_ranges.date_range_line_stands_at.Goals as goal

pub returns-in-Some : goal.returns-in-Some
returns-in-Some c e = grind (arith, common_steps, slice_there, ltb-true, bytes_eq-Decides)
