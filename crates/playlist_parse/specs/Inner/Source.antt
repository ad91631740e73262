-- What is kept of a text that was read up to a URI line, and how lines that stand in it go on elsewhere.
use Rattle.std.specs.Prelude.{◌≡◌, ℕ, ◌≤◌, true, List, [], ◌∷◌, ◌++◌, take, drop, length}
use Rattle.std.specs.Str.Lines.{lines}
use Rattle.spec_words.specs.Bytes.{line_feed}
use Rattle.url.specs.Parts.{Parts}
use Rattle.playlist_model.specs.declared.Playlist.{Playlist}
use Rattle.playlist_model.specs.declared.DateRange.{DateRange}
use Rattle.playlist_model.specs.Segments.{Segment}
use Rattle.playlist_model.specs.Inner.Heading.{Heading}
use Rattle.segment_state.specs.Continued.{Stop, IsStop, stopped_at}
use Rattle.playlist_parse.specs.Inner.Progress.{Progress}
use Rattle.playlist_kept.specs.KeptLines.{LinesWereRead}
use Rattle.playlist_kept.specs.declared.source.KeptLines.{KeptLines}
use Rattle.playlist_parse.specs.Inner.HeadingView.{heading_view}
use Rattle.playlist_kept.specs.declared.source.LastPlaylist.{LastPlaylist}
use Rattle.playlist_parse.specs.Inner.Reached.{Reached, left_in, LeadsTo}
use Rattle.playlist_parse.specs.declared.reading.Reading.{Reading}

-- a text that ends with a line feed
pub record EndsInFeed (text : List ℕ) : Type 0 where
  pub front : List ℕ
  pub is : text ≡ front ++ line_feed ∷ []

-- how far a playlist is read if these segments and date ranges were taken over, up to a stop under this heading
abbrev pub gone_to : Progress → Heading → Stop → List DateRange → List Segment → Progress
gone_to p heading stop date_ranges segments = record {
  base = p.base;
  heading = heading;
  standing = stopped_at p.standing stop;
  date_ranges = p.date_ranges ++ date_ranges;
  segments = p.segments ++ segments;
}

-- what is read here, and what is read there, go on alike: after the same segment, under the same heading, and after no more
-- segments
pub record GoOnAlike (p q : Progress) : Type 0 where
  pub stop : Stop
  pub here : IsStop p.standing stop
  pub there : IsStop q.standing stop
  pub heading : p.heading ≡ q.heading
  pub some : q.heading.has_media ≡ true
  pub fewer : length p.segments ≤ length q.segments

-- what is read here with what a source has after what is read there
abbrev pub gone_after : Progress → Progress → LastPlaylist → Progress
gone_after p q source =
    gone_to p (heading_view source.lines.heading) source.lines.stop (drop (length q.date_ranges) (take source.lines.date_ranges source.date_ranges)) (drop (length q.segments) (take source.lines.segments source.segments.items))

-- if a front of a source's lines is read there, what is read here goes on: it leads to the same
abbrev pub TakesOver : Reading → LastPlaylist → Reading → Reading → Type 0
TakesOver front source old new =
    (base : Parts) → LinesWereRead base source.lines source.segments.items source.date_ranges
    → Reached base front.progress front.number (left_in front) (lines source.lines.text) → LeadsTo base old new

-- this is what is kept of a text, all of whose lines are read so
pub record AreLinesOf (text : List ℕ) (p : Progress) (number : ℕ) (kept : KeptLines) : Type 0 where
  pub text_is : kept.text ≡ text
  pub next : kept.next ≡ number
  pub heading : heading_view kept.heading ≡ p.heading
  pub stop : IsStop p.standing kept.stop
  pub segments : kept.segments ≡ length p.segments
  pub date_ranges : kept.date_ranges ≡ length p.date_ranges

-- a playlist begins with the segments and the date ranges that were read so far
pub record Grown (p : Progress) (playlist : Playlist) : Type 0 where
  pub segments : List Segment
  pub date_ranges : List DateRange
  pub segments_are : playlist.segments ≡ p.segments ++ segments
  pub date_ranges_are : playlist.date_ranges ≡ p.date_ranges ++ date_ranges
