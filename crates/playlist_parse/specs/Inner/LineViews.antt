-- What proofs and inner functions say with the definitions of `LineViews`.
use Rattle.playlist_parse.specs.LineViews.{is_feed}
use Rattle.std.specs.Prelude.{ℕ, Bool, not, ◌||◌, List}
use Rattle.playlist_model.specs.Lines.{has_control}
use Rattle.playlist_model.specs.Inner.Lines.{is_printable_playlist_byte}
use Rattle.playlist_model.specs.Said.{Name, version_tag, target_tag, sequence_tag, discontinuity_sequence_tag, type_tag, ended_tag, independent_tag, frames_tag, master_tag, duration_tag, byte_range_tag, discontinuity_tag, key_tag, init_section_tag, time_tag, date_range_tag, unknown_tag}
use Rattle.playlist_parse.specs.declared.tag.Tag.{Tag}
use Rattle.playlist_parse.specs.declared.tag.Tag.TheVariants as tag_name

abbrev pub line_text : (ℕ × ℕ) × List ℕ → List ℕ
line_text line = line.1

-- a byte of a text whose lines have printable ASCII characters alone
abbrev pub is_plain_byte : ℕ → Bool
is_plain_byte b = is_feed b || is_printable_playlist_byte b

-- a line without control characters
abbrev pub is_free : List ℕ → Bool
is_free line = not (has_control line)

abbrev pub tag_view : Tag → Name
tag_view tag_name.Version = version_tag
tag_view tag_name.TargetDuration = target_tag
tag_view tag_name.MediaSequence = sequence_tag
tag_view tag_name.DiscontinuitySequence = discontinuity_sequence_tag
tag_view tag_name.PlaylistType = type_tag
tag_view tag_name.EndList = ended_tag
tag_view tag_name.IndependentSegments = independent_tag
tag_view tag_name.IFramesOnly = frames_tag
tag_view tag_name.Master = master_tag
tag_view tag_name.Inf = duration_tag
tag_view tag_name.ByteRange = byte_range_tag
tag_view tag_name.Discontinuity = discontinuity_tag
tag_view tag_name.Key = key_tag
tag_view tag_name.InitSection = init_section_tag
tag_view tag_name.ProgramDateTime = time_tag
tag_view tag_name.DateRange = date_range_tag
tag_view tag_name.Unknown = unknown_tag
