-- What the rows of a list mean by its tables.
use Rattle.std.specs.Prelude.{◌≡◌, ℕ, zero, suc, ◌+◌, ◌++◌, ◌^◌, string_bytes, ◌<◌, ◌≤◌, ◌-◌, List, [], Option, Some, None, map, get_or, length, slice_range}
use Rattle.std.specs.List.{slice_get}
use Rattle.std.specs.Str.{IsUtf8}
use Rattle.playlist_model.specs.declared.Key.{Key}
use Rattle.playlist_model.specs.declared.InitSection.{InitSection}
use Rattle.playlist_model.specs.EffectiveKeys.{effective_key}
use Rattle.playlist_model.specs.Segments.{Segment}
use Rattle.playlist_model.specs.declared.in_common.InCommon.{InCommon}
use Rattle.playlist_model.specs.InCommon.{AreSameAt, IsInCommon, init_section_keys, nothing_in_common}
use Rattle.playlist_model.specs.declared.places.Extra.{Extra}
use Rattle.playlist_model.specs.declared.places.Place.{Place}
use Rattle.playlist_model.specs.declared.standings.Standing.{Standing}
use Rattle.playlist_model.specs.declared.segments.Tables.{Tables}
use Rattle.playlist_model.specs.declared.segments.Row.{Row}

-- what stands past the end
abbrev pub no_standing : Standing
no_standing = record { numbers = record { media_sequence = 0; discontinuity_sequence = 0; discontinuities = 0 }; uri_front = record { from = 0; to = 0 }; keys = []; init_section = None; in_common = nothing_in_common; whole = nothing_in_common }

abbrev pub segment_text_at : List ℕ → Place → List ℕ
segment_text_at texts place = slice_range texts place.from place.to

-- what a segment has of that which few have, if it is one of the others
abbrev pub no_extra : Extra
no_extra = record { byte_range = None; program_date_time = None }

-- places of extras are counted from 1
abbrev pub extra_at : List Extra → ℕ → Extra
extra_at extras zero = no_extra
extra_at extras (suc place) = get_or extras place no_extra

-- the title of a row lies after the rest of its URI
abbrev pub title_place : Row → Place
title_place row = record { from = row.uri_rest.to; to = row.title_end }

abbrev pub row_standing : List Standing → ℕ → Standing
row_standing standings place = get_or standings place no_standing

-- the Media Sequence Number of a row over which this stands
abbrev pub row_number : Standing → Row → ℕ
row_number standing row = standing.numbers.media_sequence + row.number

-- the segment of a row over which this stands
abbrev pub row_segment_over : List ℕ → List Extra → Standing → Row → Segment
row_segment_over texts extras standing row = record {
  media_sequence = row_number standing row;
  discontinuity_sequence = standing.numbers.discontinuity_sequence;
  discontinuities = standing.numbers.discontinuities;
  uri = segment_text_at texts standing.uri_front ++ segment_text_at texts row.uri_rest;
  byte_range = (extra_at extras row.extra).byte_range;
  keys = map (effective_key (row_number standing row)) standing.keys;
  init_section = standing.init_section;
  duration = row.duration;
  title = segment_text_at texts (title_place row);
  program_date_time = (extra_at extras row.extra).program_date_time;
}

-- the segment of a row
abbrev pub row_segment : Tables → Row → Segment
row_segment tables row = row_segment_over (string_bytes tables.texts) tables.extras.items (row_standing tables.standings.items row.standing) row

abbrev pub row_segments : Tables → List Row → List Segment
row_segments tables rows = map (row_segment tables) rows

-- a text lies there
pub record HasText (texts : List ℕ) (place : Place) : Type 0 where
  pub ordered : place.from ≤ place.to
  pub within : place.to ≤ length texts
  pub utf8 : IsUtf8 (segment_text_at texts place)

-- what few segments have lies there, if it is a place of that
abbrev pub HasExtra : List Extra → ℕ → Type 0
HasExtra extras zero = Unit {0}
HasExtra extras (suc place) = place < length extras

-- all that a row points to is there
pub record Fits (tables : Tables) (row : Row) : Type 0 where
  pub uri_front : HasText (string_bytes tables.texts) (row_standing tables.standings.items row.standing).uri_front
  pub uri_rest : HasText (string_bytes tables.texts) row.uri_rest
  pub title : HasText (string_bytes tables.texts) (title_place row)
  pub extra : HasExtra tables.extras.items row.extra
  pub standing : row.standing < length tables.standings.items
  pub number : row_number (row_standing tables.standings.items row.standing) row < 2 ^ 64

-- the last of these has these keys and this initialisation section, and the front of the URIs under it lies there
pub record IsLastOf (standings : List Standing) (keys : List Key) (init_section : Option InitSection) (uri_front : Place) : Type 0 where
  pub last : Standing
  pub found : slice_get standings (length standings - 1) ≡ Some last
  pub keys_are : last.keys ≡ keys
  pub init_section_is : last.init_section ≡ init_section
  pub uri_front_is : last.uri_front ≡ uri_front

-- each of these knows what it has in common with the one before it, and with itself
pub record AreCompared (standings : List Standing) : Type 0 where
  pub with_before : (place : ℕ) (before now : Standing) → slice_get standings place ≡ Some before → slice_get standings (place + 1) ≡ Some now → IsInCommon now.in_common before.keys before.init_section now.keys now.init_section
  pub whole : (place : ℕ) (now : Standing) → slice_get standings place ≡ Some now → IsInCommon now.whole now.keys now.init_section now.keys now.init_section

-- what these keys and this initialisation section have in common with the last of these, and with each other
pub record IsComparedWithLast (standings : List Standing) (common : InCommon) (keys : List Key) (init_section : Option InitSection) : Type 0 where
  pub with_last : (last : Standing) → slice_get standings (length standings - 1) ≡ Some last → IsInCommon common last.keys last.init_section keys init_section
  pub own : AreSameAt common.own_keys keys (init_section_keys init_section)
