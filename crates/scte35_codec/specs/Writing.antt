-- Which values have a section that may be written, and what is added at the end of some bytes.
use Rattle.std.specs.Prelude.{ℕ, ◌/◌, ◌^◌, Bool, true, not, ◌&&◌, nat_lt, nat_le, ◌==◌, List, length, Option, Some, None}
use Rattle.std.specs.List.{list_all}
use Rattle.scte35_codec.specs.declared.info.SpliceTime.{SpliceTime}
use Rattle.scte35_codec.specs.declared.info.BreakDuration.{BreakDuration}
use Rattle.scte35_codec.specs.Layout.{BitField, width}
use Rattle.scte35_codec.specs.Section.{Target, Program, Components, Body, Command, Insert, Other, Section, command_fields, after_length, splice_section_fields, is_timed}

-- whether a number fits a field of so many bits
abbrev pub fits_bits : ℕ → ℕ → Bool
fits_bits bits n = nat_lt n (2 ^ bits)

abbrev pub pts_fits : Option ℕ → Bool
pts_fits None = true
pts_fits (Some pts) = fits_bits 33 pts

abbrev pub time_fits : Option SpliceTime → Bool
time_fits None = true
time_fits (Some time) = pts_fits time.pts

-- A time is there exactly if the splice is not immediate, and fits its field.
abbrev pub splice_time_fits : Bool → Option SpliceTime → Bool
splice_time_fits immediate time = is_timed immediate time && time_fits time

abbrev pub splice_target_fits : Bool → Target → Bool
splice_target_fits immediate (Program time) = splice_time_fits immediate time
splice_target_fits immediate (Components components) = nat_le (length components) 255 && list_all (λ c. splice_time_fits immediate c.1) components

abbrev pub break_duration_fits : Option BreakDuration → Bool
break_duration_fits None = true
break_duration_fits (Some duration) = fits_bits 33 duration.ticks

abbrev pub insert_body_fits : Option Body → Bool
insert_body_fits None = true
insert_body_fits (Some b) = splice_target_fits b.immediate b.target && break_duration_fits b.duration

-- A command of another type is not of the type of splice_insert.
abbrev pub splice_command_fits : Command → Bool
splice_command_fits (Insert i) = insert_body_fits i.body
splice_command_fits (Other kind bytes) = not (kind == 5)

-- the bytes of the command, which splice_command_length counts
abbrev pub command_length : Section → ℕ
command_length s = width (command_fields s.command) / 8

-- the bytes after section_length, which it counts
abbrev pub splice_section_length : Section → ℕ
splice_section_length s = width (after_length s (command_length s)) / 8

-- whether a value has a section that may be written: section_length is at most 4093
unfoldable pub has_splice_section : Section → Bool
has_splice_section s = fits_bits 33 s.pts_adjustment && fits_bits 12 s.tier && splice_command_fits s.command && nat_le (splice_section_length s) 4093

-- the fields of a section that is written, with all its lengths counted
abbrev pub written_fields : Section → List BitField
written_fields s = splice_section_fields s (command_length s)
