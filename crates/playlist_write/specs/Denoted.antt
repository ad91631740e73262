-- The playlist that a written text says.
use Rattle.std.specs.Prelude.{ℕ, List, [], ◌∷◌, map, Ok}
use Rattle.std.specs.List.{flat_map}
use Rattle.playlist_model.specs.declared.DateRange.{DateRange}
use Rattle.playlist_model.specs.declared.Playlist.{Playlist}
use Rattle.playlist_model.specs.Segments.{Segment}
use Rattle.playlist_model.specs.Said.{Said, date_range, Outcome, date_range_said}
use Rattle.playlist_model.specs.Reading.{unlimited}
use Rattle.stitcher.specs.declared.OutSegment.{OutSegment}
use Rattle.playlist_write.specs.declared.OutPlaylist.{OutPlaylist}

-- the segment with the numbers and the time that it is given
abbrev pub denoted_segment : OutSegment → Segment
denoted_segment out = record out.segment { media_sequence = out.media_sequence; discontinuity_sequence = out.discontinuity_sequence; discontinuities = out.discontinuities; program_date_time = out.program_date_time }

abbrev pub date_range_told : Outcome Said → List DateRange
date_range_told (Ok (date_range r)) = r ∷ []
date_range_told _ = []

-- the date range that a text says to a reader
abbrev pub denoted_date_range : List ℕ → List DateRange
denoted_date_range text = date_range_told (date_range_said unlimited text)

abbrev pub denoted : OutPlaylist → Playlist
denoted p = record {
  version = p.version;
  target_duration = p.target_duration;
  playlist_type = p.playlist_type;
  independent_segments = p.independent_segments;
  end_list = p.end_list;
  date_ranges = flat_map denoted_date_range p.date_ranges;
  segments = map denoted_segment p.segments;
}
