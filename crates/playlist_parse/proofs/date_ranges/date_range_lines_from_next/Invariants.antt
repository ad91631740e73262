use Rattle.playlist_parse.specs.Inner.ParsedDateRanges.{AreSaidByAttributes}
use Rattle.playlist_parse.proofs.date_ranges.date_range_lines_from_next.Given as goal

abbrev pub invariant-loop : goal.invariant-loop
invariant-loop l = AreSaidByAttributes l.left
