-- A playlist that was read with what is kept of the last one.
use Rattle.std.specs.Prelude.{◌≡◌, ◌≢◌, ◌++◌, ℕ, List, [], ◌∷◌, take, drop, Option, Some, None, Result, Ok, Err, MatchResult}
use Rattle.url.specs.Parts.{Parts}
use Rattle.playlist_model.specs.declared.Playlist.{Playlist}
use Rattle.playlist_model.specs.Segments.{Segment}
use Rattle.playlist_model.specs.declared.FaultKind.TheVariants.{OutOfMemory}
use Rattle.playlist_model.specs.Reading.{Fault}
use Rattle.playlist_kept.specs.KeptLines.{LinesWereRead}
use Rattle.playlist_kept.specs.declared.source.KeptLines.{KeptLines}
use Rattle.playlist_kept.specs.declared.read_playlist.Read.{Read}
use Rattle.playlist_kept.specs.declared.source.LastPlaylist.{LastPlaylist}
use Rattle.playlist_kept.specs.declared.step.Step.{Step}

-- segments that were read, with those that were taken over after the first of them
abbrev pub with_taken : ℕ → List Segment → List Segment → List Segment
with_taken front read taken = take front read ++ (taken ++ drop front read)

-- the whole playlist that was read
abbrev pub playlist_in : Read → Playlist
playlist_in read = record read.playlist { segments = with_taken read.front read.playlist.segments read.taken.now }

abbrev pub first_of : List Segment → Option Segment
first_of [] = None
first_of (s ∷ later) = Some s

-- the playlist, or the fault, a failed allocation apart, which says nothing of the rest and stands at no line
abbrev pub AnswersRead : Result Read Fault → Result Playlist Fault → Type 0
AnswersRead result outcome =
    MatchResult result (λ read. outcome ≡ Ok (playlist_in read))
    (λ e. (e.kind ≢ OutOfMemory → outcome ≡ Err e) × (e.kind ≡ OutOfMemory → e.line ≡ 0))

-- these lines of the playlist, if any are kept, were read under this base
abbrev pub AreKeptLines : Parts → Playlist → Option KeptLines → Type 0
AreKeptLines base playlist None = Unit {0}
AreKeptLines base playlist (Some kept) = LinesWereRead base kept playlist.segments playlist.date_ranges

-- so were those of a source
abbrev pub IsKeptUnderBase : Parts → Option LastPlaylist → Type 0
IsKeptUnderBase base None = Unit {0}
IsKeptUnderBase base (Some source) = LinesWereRead base source.lines source.segments.items source.date_ranges

abbrev pub kept_segments : Option LastPlaylist → List Segment
kept_segments None = []
kept_segments (Some source) = source.segments.items

-- the segments that were taken over stand in the old list
abbrev pub IsTakenFrom : List Segment → Read → Type 0
IsTakenFrom old read = read.taken.now ≡ drop read.from (take read.till old)

-- what is kept of a playlist after this one was kept
pub record IsAfter (step : Step) (last : Option LastPlaylist) (source : LastPlaylist) : Type 0 where
  pub lines : step.lines ≡ Some source.lines
  pub segments : source.segments.items ≡ with_taken step.front step.playlist.segments (drop step.from (take step.till (kept_segments last)))
  pub date_ranges : source.date_ranges ≡ step.playlist.date_ranges
