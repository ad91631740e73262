use Rattle.std.proofs.Common.{◌≡◌, ◌+◌, ◌<◌, ◌^◌, true, map, length}
use Rattle.std.specs.List.{list_all}
use Rattle.url.specs.Parts.{Parts}
use Rattle.playlist_parse.specs.Inner.LineViews.{is_free, line_text}
use Rattle.playlist_parse.specs.Inner.Reached.{LeadsTo, IsStillTold, reading_at}
use Rattle.playlist_parse.proofs.reading.read_all_lines.Given as goal

abbrev pub invariant-lines : goal.invariant-lines
invariant-lines l =
    let here = reading_at l.reading.progress l.lines l.number in
    ((base : Parts) → LeadsTo base l.initial.reading here) × (l.is_plain ≡ true → list_all is_free (map line_text l.lines) ≡ true) × (l.number + length l.lines < 2 ^ 64)
    × ((base : Parts) → IsStillTold base l.initial.reading here)

abbrev pub decreases-lines : goal.decreases-lines
decreases-lines l = length l.lines
