-- What lines say, whatever holds their texts.
use Rattle.std.specs.Prelude.{ℕ, ◌+◌, Bool, ◌==◌, List, map, length}
use Rattle.std.specs.List.{slice_split}
use Rattle.spec_words.specs.Bytes.{line_feed}
use Rattle.playlist_model.specs.Lines.{Kind, ignored, uri, tag, placed_from}
use Rattle.playlist_parse.specs.declared.line.Line.{Line}
use Rattle.playlist_parse.specs.declared.line.LineKind.{LineKind}
use Rattle.playlist_parse.specs.declared.line.LineKind.TheVariants as line_kind

abbrev pub line_kind_view : LineKind → Kind
line_kind_view line_kind.Ignored = ignored
line_kind_view (line_kind.Uri text) = uri text.now
line_kind_view (line_kind.Tag name rest colon) = tag name.now rest.now colon

-- a line: its place and its text
abbrev pub line_view : Line → (ℕ × ℕ) × List ℕ
line_view line = ((line.span.start, line.span.end), line.text.now)

abbrev pub line_span : (ℕ × ℕ) × List ℕ → ℕ × ℕ
line_span line = line.0

-- a line's place and text, from where it begins
abbrev pub with_end : ℕ × List ℕ → (ℕ × ℕ) × List ℕ
with_end placed = ((placed.0, placed.0 + length placed.1), placed.1)

abbrev pub is_feed : ℕ → Bool
is_feed b = b == line_feed

-- the lines of a text that begins at a place, each with its own
abbrev pub lines_from : ℕ → List ℕ → List ((ℕ × ℕ) × List ℕ)
lines_from start text = map with_end (placed_from start (slice_split is_feed text))
