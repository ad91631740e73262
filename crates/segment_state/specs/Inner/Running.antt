-- What proofs and inner functions say with the definitions of `Running`.
use Rattle.segment_state.specs.Running.{Running}
use Rattle.std.specs.Prelude.{◌+◌, ℕ, map, Option, None, List}
use Rattle.playlist_model.specs.Segments.{Segment}
use Rattle.playlist_model.specs.declared.ByteRange.{ByteRange}
use Rattle.playlist_model.specs.declared.InitSection.{InitSection}
use Rattle.playlist_model.specs.declared.Key.{Key}
use Rattle.playlist_model.specs.EffectiveKeys.{effective_key}
use Rattle.playlist_model.specs.LookBack.{Standing, Extent}

-- the segment of what stands, of this resource, byte range, and duration with its title
abbrev pub segment_from : Standing → List ℕ → Option ByteRange → ℕ × List ℕ → Segment
segment_from s uri byte_range own = record {
  media_sequence = s.media_sequence + s.media_count;
  discontinuity_sequence = s.discontinuity_sequence + s.discontinuity_count;
  discontinuities = s.discontinuities;
  uri = uri;
  byte_range = byte_range;
  keys = map (effective_key (s.media_sequence + s.media_count)) s.keys;
  init_section = s.init_section;
  duration = own.0;
  title = own.1;
  program_date_time = s.program_date_time;
}

-- what stands after a URI line: the tags of its segment stand no more
abbrev pub after_uri_line : Running → Option Extent → Running
after_uri_line old last = record old {
  standing = record old.standing {
    media_count = old.standing.media_count + 1;
    discontinuities = 0;
    duration = None;
    byte_range = None;
    program_date_time = None;
    extent = last;
  };
}

-- what stands where the lines of a playlist that was read before go on
abbrev pub taken_at : Running → ℕ → ℕ → List Key → Option InitSection → Option Extent → Running
taken_at old media_count discontinuity_count keys init_section last = record old {
  standing = record {
    media_sequence = old.standing.media_sequence;
    discontinuity_sequence = old.standing.discontinuity_sequence;
    media_count = media_count;
    discontinuity_count = discontinuity_count;
    discontinuities = 0;
    duration = None;
    byte_range = None;
    program_date_time = None;
    keys = keys;
    init_section = init_section;
    extent = last;
  };
}
