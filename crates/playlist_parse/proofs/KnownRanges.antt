-- What a source has of date ranges was read.
use Rattle.std.proofs.Common.{List, [], ◌∷◌, take, subst}
use Rattle.std.specs.Str.Lines.{lines}
use Rattle.url.specs.Parts.{Parts}
use Rattle.playlist_model.specs.declared.DateRange.{DateRange}
use Rattle.playlist_model.specs.Segments.{Segment}
use Rattle.playlist_model.specs.Said.{nothing}
use Rattle.playlist_kept.specs.KeptLines.{LinesWereRead}
use Rattle.playlist_kept.specs.declared.source.KeptLines.{KeptLines}
use Rattle.playlist_parse.specs.Inner.ParsedDateRanges.{AreSaidByAttributes}
use Rattle.playlist_parse.proofs.SaidAgain.{all_said}

pub said_before : (base : Parts) (kept : KeptLines) (all : List Segment) (ranges : List DateRange) → LinesWereRead base kept all ranges → AreSaidByAttributes (take kept.date_ranges ranges)
said_before base kept all ranges was = subst AreSaidByAttributes was.date_ranges (all_said base (lines kept.text) (nothing ∷ []) was.before was.read tt)
