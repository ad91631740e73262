-- Lines that are read after others: what is alike if they say the same there (RFC 8216, 4.3).
use Rattle.std.specs.Prelude.{◌≡◌, ℕ, ◌+◌, ◌≤◌, true, List, ◌++◌, length, ℤ, Option, Ok}
use Rattle.url.specs.Parts.{Parts}
use Rattle.playlist_model.specs.declared.Key.{Key}
use Rattle.playlist_model.specs.declared.InitSection.{InitSection}
use Rattle.playlist_model.specs.Segments.{Segment}
use Rattle.playlist_model.specs.declared.DateRange.{DateRange}
use Rattle.playlist_model.specs.Said.{Said, Reader}
use Rattle.playlist_model.specs.LookBack.{Extent, latest, the_sequence, the_discontinuity_sequence, is_media, count, own_duration, own_byte_range, own_time, media_sequence_at, discontinuity_at, steps_at, keys_at, init_section_at, last_extent, segments_of, date_ranges_of}
use Rattle.playlist_model.specs.Inner.Heading.{Heading, heading_at}
use Rattle.playlist_model.specs.Reading.{has, said_by, said_from}

-- what the lines before a line say of it and those after it, how many segments stood before apart
pub record Scene : Type 0 where
  pub heading : Heading
  pub number : ℕ
  pub discontinuity : ℕ
  pub steps : ℕ
  pub duration : Option (ℕ × List ℕ)
  pub byte_range : Option (ℕ × Option ℕ)
  pub time : Option ℤ
  pub keys : List Key
  pub init_section : Option InitSection
  pub extent : Option Extent

abbrev pub scene_at : List Said → Scene
scene_at before = record {
  heading = heading_at before;
  number = media_sequence_at before;
  discontinuity = discontinuity_at before;
  steps = steps_at before;
  duration = own_duration before;
  byte_range = own_byte_range before;
  time = own_time before;
  keys = keys_at before;
  init_section = init_section_at before;
  extent = last_extent before;
}

-- the same stands at both, after a segment, and no more segments stood before the new one
pub record Alike (old new : List Said) : Type 0 where
  pub scene : scene_at old ≡ scene_at new
  pub media : has is_media old ≡ true
  pub fewer : count is_media new ≤ count is_media old

-- these lines, which lead from the one to all that it says, lead from the other to this, by the same segments and date
-- ranges
pub record Resumed (reader : Reader) (base : Parts) (old new : List Said) (lines : List (List ℕ)) (all : List Said) : Type 0 where
  pub said : List Said
  pub read : said_from (said_by reader base) new lines ≡ Ok said
  pub alike : Alike all said
  pub segments : List Segment
  pub date_ranges : List DateRange
  pub old_segments : segments_of all ≡ segments_of old ++ segments
  pub new_segments : segments_of said ≡ segments_of new ++ segments
  pub old_date_ranges : date_ranges_of all ≡ date_ranges_of old ++ date_ranges
  pub new_date_ranges : date_ranges_of said ≡ date_ranges_of new ++ date_ranges
  pub count : count is_media said ≡ count is_media new + length segments
  pub sequence : latest the_sequence said ≡ latest the_sequence new
  pub discontinuity_sequence : latest the_discontinuity_sequence said ≡ latest the_discontinuity_sequence new
  pub lines_read : length said ≡ length new + length lines
  pub old_lines_read : length all ≡ length old + length lines

abbrev pub ReadingGoesOn : Type 0
ReadingGoesOn =
    (reader : Reader) (base : Parts) (old new : List Said) (lines : List (List ℕ)) (all : List Said) → Alike old new
    → said_from (said_by reader base) old lines ≡ Ok all → Resumed reader base old new lines all
