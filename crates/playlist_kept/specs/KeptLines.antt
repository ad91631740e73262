-- The lines that are kept of a playlist that was read (RFC 8216, 4.1 and 4.3).
use Rattle.std.specs.Prelude.{◌≡◌, ◌+◌, ◌^◌, ◌<◌, List, [], ◌∷◌, take, length, Ok}
use Rattle.std.specs.Str.Lines.{lines}
use Rattle.url.specs.Parts.{Parts}
use Rattle.playlist_model.specs.declared.DateRange.{DateRange}
use Rattle.playlist_model.specs.Segments.{Segment}
use Rattle.playlist_model.specs.Said.{Said, nothing}
use Rattle.playlist_model.specs.LookBack.{latest, the_version, the_target, the_sequence, the_discontinuity_sequence, the_type, is_media, is_independent, is_ended, standing_at, segments_of, date_ranges_of}
use Rattle.playlist_model.specs.Reading.{said_by, said_from, limited, is_set, has}
use Rattle.segment_state.specs.Continued.{IsStop}
use Rattle.playlist_kept.specs.declared.heading.ReadHeading.{ReadHeading}
use Rattle.playlist_kept.specs.declared.source.KeptLines.{KeptLines}

-- the tags of the whole playlist say this in lines (RFC 8216, 4.3.1, 4.3.3 and 4.3.5)
pub record SaysOfAll (heading : ReadHeading) (before : List Said) : Type 0 where
  pub version : latest the_version before ≡ heading.version
  pub target_duration : latest the_target before ≡ heading.target_duration
  pub playlist_type : latest the_type before ≡ heading.playlist_type
  pub independent_segments : has is_independent before ≡ heading.independent_segments
  pub end_list : has is_ended before ≡ heading.end_list
  pub has_sequence : is_set the_sequence before ≡ heading.has_sequence
  pub has_discontinuity_sequence : is_set the_discontinuity_sequence before ≡ heading.has_discontinuity_sequence
  pub has_media : has is_media before ≡ heading.has_media

-- these lines were read under this base; their segments and date ranges are the first of these
pub record LinesWereRead (base : Parts) (kept : KeptLines) (all : List Segment) (ranges : List DateRange) : Type 0 where
  pub before : List Said
  pub few : length (lines kept.text) < 2 ^ 63
  pub read : said_from (said_by limited base) (nothing ∷ []) (lines kept.text) ≡ Ok before
  pub next : length before + 1 ≡ kept.next
  pub heading : SaysOfAll kept.heading before
  pub stop : IsStop (standing_at before) kept.stop
  pub segments : segments_of before ≡ take kept.segments all
  pub date_ranges : date_ranges_of before ≡ take kept.date_ranges ranges
