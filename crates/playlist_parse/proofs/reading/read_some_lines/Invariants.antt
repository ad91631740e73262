use Rattle.std.proofs.Common.{◌≡◌, ◌+◌, ◌<◌, ◌^◌, true, length}
use Rattle.std.specs.List.{list_all}
use Rattle.url.specs.Parts.{Parts}
use Rattle.playlist_parse.specs.Inner.LineViews.{is_free}
use Rattle.playlist_parse.specs.Inner.Reached.{LeadsTo, IsStillTold, left_in}
use Rattle.playlist_parse.proofs.reading.read_some_lines.Given as goal

abbrev pub invariant-lines : goal.invariant-lines
invariant-lines l =
    ((base : Parts) → LeadsTo base l.initial.reading l.reading) × (l.is_plain ≡ true → list_all is_free (left_in l.reading) ≡ true) × (l.reading.number + length l.reading.lines < 2 ^ 64)
    × ((base : Parts) → IsStillTold base l.initial.reading l.reading)

abbrev pub decreases-lines : goal.decreases-lines
decreases-lines l = length l.reading.lines
