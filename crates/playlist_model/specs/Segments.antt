-- A media segment, as contracts see one, and a list of segments that grows.
use Rattle.std.specs.Prelude.{ℕ, ℤ, ◌++◌, List, Option, map}
use Rattle.playlist_model.specs.declared.Key.{Key}
use Rattle.playlist_model.specs.declared.ByteRange.{ByteRange}
use Rattle.playlist_model.specs.declared.InitSection.{InitSection}
use Rattle.playlist_model.specs.declared.segments.SegmentParts.{SegmentParts}
use Rattle.playlist_model.specs.EffectiveKeys.{effective_key}

-- a media segment (RFC 8216, sections 3 and 4.3.2)
pub record Segment : Type 0 where
  -- its Media Sequence Number (4.3.3.2)
  pub media_sequence : ℕ
  -- its Discontinuity Sequence Number (4.3.3.3)
  pub discontinuity_sequence : ℕ
  -- how many EXT-X-DISCONTINUITY stand between it and the segment before
  pub discontinuities : ℕ
  -- its resource: an absolute URI
  pub uri : List ℕ
  -- the part of the resource, if it isn't the whole
  pub byte_range : Option ByteRange
  -- the keys that it is encrypted under, sorted by format; none if it is clear
  pub keys : List Key
  -- what its parser is initialised with, if it needs that
  pub init_section : Option InitSection
  -- how long it lasts (EXTINF)
  pub duration : ℕ
  -- what stands after the duration and a comma
  pub title : List ℕ
  -- when its first sample is, if EXT-X-PROGRAM-DATE-TIME states that
  pub program_date_time : Option ℤ

-- segments, and what is in force after them: the keys, the initialisation section, and the front of the URIs
pub record Growing : Type 0 where
  pub segments : List Segment
  pub keys : List Key
  pub init_section : Option InitSection
  pub uri_front : List ℕ

-- the segment of these parts where these keys, this initialisation section and this front of the URIs are in force (4.3.2.4,
-- 4.3.2.5, 5.2)
abbrev pub segment_under : List Key → Option InitSection → List ℕ → SegmentParts → Segment
segment_under keys init_section uri_front parts = record {
  media_sequence = parts.media_sequence;
  discontinuity_sequence = parts.discontinuity_sequence;
  discontinuities = parts.discontinuities;
  uri = uri_front ++ parts.uri_rest.now;
  byte_range = parts.byte_range;
  keys = map (effective_key parts.media_sequence) keys;
  init_section = init_section;
  duration = parts.duration;
  title = parts.title.now;
  program_date_time = parts.program_date_time;
}
