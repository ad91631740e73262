-- The text of a playlist. Each line ends with a line feed.
use Rattle.std.specs.Prelude.{ℕ, ◌-◌, Bool, List, [], ◌∷◌, ◌++◌, map, codes, replicate, ℤ, Option, Some, None, if◌then◌else◌}
use Rattle.std.specs.List.{flat_map}
use Rattle.spec_words.specs.Bytes.{line_feed}
use Rattle.playlist_model.specs.declared.Key.{Key}
use Rattle.playlist_model.specs.declared.ByteRange.{ByteRange}
use Rattle.playlist_model.specs.declared.InitSection.{InitSection}
use Rattle.playlist_model.specs.declared.PlaylistKind.{PlaylistKind}
use Rattle.playlist_model.specs.Segments.{Segment}
use Rattle.playlist_model.specs.LookBack.{or_earlier}
use Rattle.playlist_model.specs.Said.{Said, version, target, sequence, discontinuity_sequence, playlist_type, ended, independent, duration, byte_range, discontinuity, key_tag_said, init_section, time, media}
use Rattle.stitcher.specs.declared.OutSegment.{OutSegment}
use Rattle.playlist_model.specs.Same.{same_option, same_init_section}
use Rattle.stitcher.specs.KeyTags.{transition}
use Rattle.playlist_write.specs.declared.OutPlaylist.{OutPlaylist}
use Rattle.playlist_write.specs.Spelling.{spelled, date_range_line}

-- ---- the lines of a segment

abbrev pub keys_owed : List Key → List Key → List Said
keys_owed old new = map key_tag_said (transition old new)

-- the keys and the initialisation section that are in force where a line is written
pub record Current : Type 0 where
  pub keys : List Key
  pub init_section : Option InitSection

abbrev pub none_yet : Current
none_yet = record { keys = []; init_section = None }

-- the initialisation section, if it is another than the one in force
abbrev pub changed_written_init_section : Option InitSection → Option InitSection → Option InitSection
changed_written_init_section current None = None
changed_written_init_section current (Some new) = if same_option same_init_section (Some new) current then None else Some new

-- a changed initialisation section is written under its own keys, which are then in force
abbrev pub init_section_owed : List Key → Option InitSection → List Said
init_section_owed keys None = []
init_section_owed keys (Some new) = keys_owed keys new.keys ++ init_section new.uri new.byte_range ∷ []

abbrev pub written_keys_then : List Key → Option InitSection → List Key
written_keys_then keys None = keys
written_keys_then keys (Some new) = new.keys

abbrev pub time_owed : Option ℤ → List Said
time_owed None = []
time_owed (Some t) = time t ∷ []

abbrev pub byte_range_owed : Option ByteRange → List Said
byte_range_owed None = []
byte_range_owed (Some r) = byte_range r.length (Some r.offset) ∷ []

abbrev pub media_owed : Segment → List Said
media_owed segment = duration segment.duration segment.title ∷ (byte_range_owed segment.byte_range ++ media segment.uri ∷ [])

abbrev pub segment_owed : Current → OutSegment → List Said
segment_owed current out =
    let changed = changed_written_init_section current.init_section out.segment.init_section in
    replicate out.discontinuities discontinuity
    ++ (init_section_owed current.keys changed
    ++ (keys_owed (written_keys_then current.keys changed) out.segment.keys
    ++ (time_owed out.program_date_time ++ media_owed out.segment)))

abbrev pub after_segment : Current → OutSegment → Current
after_segment current out = record { keys = out.segment.keys; init_section = or_earlier out.segment.init_section current.init_section }

abbrev pub segments_owed : Current → List OutSegment → List Said
segments_owed current [] = []
segments_owed current (out ∷ later) = segment_owed current out ++ segments_owed (after_segment current out) later

-- ---- the whole

abbrev pub type_owed : Option PlaylistKind → List Said
type_owed None = []
type_owed (Some kind) = playlist_type kind ∷ []

abbrev pub independent_owed : Bool → List Said
independent_owed test = if test then independent ∷ [] else []

abbrev pub ended_owed : Bool → List Said
ended_owed test = if test then ended ∷ [] else []

abbrev pub first_written_media_sequence : List OutSegment → ℕ
first_written_media_sequence [] = 0
first_written_media_sequence (out ∷ later) = out.media_sequence

-- what EXT-X-DISCONTINUITY-SEQUENCE states (4.3.3.3): the number before the discontinuities of the first segment
abbrev pub written_discontinuity_sequence : List OutSegment → ℕ
written_discontinuity_sequence [] = 0
written_discontinuity_sequence (out ∷ later) = out.discontinuity_sequence - out.discontinuities

abbrev pub numbers_owed : OutPlaylist → List Said
numbers_owed p =
    version p.version ∷ target p.target_duration ∷ sequence (first_written_media_sequence p.segments) ∷ discontinuity_sequence (written_discontinuity_sequence p.segments) ∷ []

abbrev pub header_owed : OutPlaylist → List Said
header_owed p = numbers_owed p ++ (type_owed p.playlist_type ++ independent_owed p.independent_segments)

-- a line ends with a line feed
abbrev pub with_feed : List ℕ → List ℕ
with_feed line = line ++ line_feed ∷ []

-- the line that says this, and those that say these
unfoldable pub line_saying : Said → List ℕ
line_saying said = with_feed (spelled said)

abbrev pub said_text : List Said → List ℕ
said_text says = flat_map line_saying says

-- date ranges stand as they are
unfoldable pub ended_date_range_line : List ℕ → List ℕ
ended_date_range_line text = with_feed (date_range_line text)

abbrev pub date_ranges_text : List (List ℕ) → List ℕ
date_ranges_text date_ranges = flat_map ended_date_range_line date_ranges

-- the text of a playlist: the header, the date ranges, the segments and the end
abbrev pub playlist_text : OutPlaylist → List ℕ
playlist_text p =
    with_feed (codes "#EXTM3U")
    ++ (said_text (header_owed p)
    ++ (date_ranges_text p.date_ranges
    ++ (said_text (segments_owed none_yet p.segments)
    ++ said_text (ended_owed p.end_list))))
