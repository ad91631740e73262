-- Whether two keys, or two initialisation sections, are the same in all their parts; whether two playlists are of one type.
use Rattle.std.specs.Prelude.{ℕ, Bool, true, false, [], ◌&&◌, ◌==◌, Option, Some, None, bytes_eq}
use Rattle.std.specs.Cmp.Lexicographic.{pointwise}
use Rattle.playlist_model.specs.declared.Key.{Key}
use Rattle.playlist_model.specs.declared.ByteRange.{ByteRange}
use Rattle.playlist_model.specs.declared.InitSection.{InitSection}
use Rattle.playlist_model.specs.Segments.{Segment}
use Rattle.playlist_model.specs.declared.PlaylistKind.{PlaylistKind}
use Rattle.playlist_model.specs.declared.PlaylistKind.TheVariants.{Event, Vod}

abbrev pub same_option : {A : Type 0} → (A → A → Bool) → Option A → Option A → Bool
same_option same None None = true
same_option same None (Some y) = false
same_option same (Some x) None = false
same_option same (Some x) (Some y) = same x y

abbrev pub same_number : ℕ → ℕ → Bool
same_number a b = a == b

abbrev pub same_key : Key → Key → Bool
same_key j k =
    bytes_eq j.format k.format && bytes_eq j.method k.method && bytes_eq j.uri k.uri && same_option same_number j.iv k.iv && bytes_eq j.other_attributes k.other_attributes

abbrev pub same_byte_range : ByteRange → ByteRange → Bool
same_byte_range a b = a.length == b.length && a.offset == b.offset

abbrev pub same_init_section : InitSection → InitSection → Bool
same_init_section a b = bytes_eq a.uri b.uri && same_option same_byte_range a.byte_range b.byte_range && pointwise same_key a.keys b.keys

abbrev pub kind_eq : Option PlaylistKind → Option PlaylistKind → Bool
kind_eq None None = true
kind_eq (Some Event) (Some Event) = true
kind_eq (Some Vod) (Some Vod) = true
kind_eq _ _ = false

-- a segment without its title, its time and its steps
abbrev pub kept_parts : Segment → Segment
kept_parts s = record s { discontinuities = 0; title = []; program_date_time = None }

abbrev pub has_same_segment_numbers : Segment → Segment → Bool
has_same_segment_numbers a b = a.media_sequence == b.media_sequence && a.discontinuity_sequence == b.discontinuity_sequence

abbrev pub has_same_segment_media : Segment → Segment → Bool
has_same_segment_media a b = bytes_eq a.uri b.uri && same_option same_byte_range a.byte_range b.byte_range && a.duration == b.duration

abbrev pub has_same_segment_protection : Segment → Segment → Bool
has_same_segment_protection a b = pointwise same_key a.keys b.keys && same_option same_init_section a.init_section b.init_section

-- the same in all but title, time and steps
abbrev pub same_segment : Segment → Segment → Bool
same_segment a b = has_same_segment_numbers a b && has_same_segment_media a b && has_same_segment_protection a b
