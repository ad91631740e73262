-- What the fields of a state mean.
use Rattle.std.specs.Prelude.{Option, Some, None}
use Rattle.playlist_model.specs.LookBack.{Extent}
use Rattle.segment_state.specs.declared.Part.{Part}
use Rattle.segment_state.specs.declared.ReaderState.TheInside.{Inside}
use Rattle.segment_state.specs.Running.{Running}

-- the last segment's resource, and its byte range of it, if it has one
abbrev pub extent_after : Option Part → Option Extent
extent_after None = None
extent_after (Some part) = Some (record { uri = part.uri; byte_range = part.byte_range })

abbrev pub running_of : Inside → Running
running_of a = record {
  base = a.references;
  standing = record {
    media_sequence = a.media_sequence;
    discontinuity_sequence = a.discontinuity_sequence;
    media_count = a.media_count;
    discontinuity_count = a.discontinuity_count;
    discontinuities = a.discontinuities;
    duration = a.durations;
    byte_range = a.byte_range;
    program_date_time = a.program_date_time;
    keys = a.segments.keys;
    init_section = a.segments.init_section;
    extent = extent_after a.last;
  };
  segments = a.segments.segments;
}
