-- Which playlists can be written so that the text says them.
use Rattle.std.specs.Prelude.{ℕ, ◌^◌, Bool, not, ◌&&◌, ◌||◌, ◌==◌, nat_lt, List, is_some}
use Rattle.std.specs.List.{list_any, list_all}
use Rattle.date_times.specs.Instant.{in_range}
use Rattle.playlist_model.specs.Segments.{Segment}
use Rattle.playlist_model.specs.Numbering.{Numbers, numbers_rise}
use Rattle.stitcher.specs.declared.OutSegment.{OutSegment}
use Rattle.playlist_write.specs.declared.OutPlaylist.{OutPlaylist}
pub use Rattle.writable.specs.Fitting.{duration_fits}
use Rattle.writable.specs.Fitting.{if_some, is_clean, uri_fits, byte_range_fits, effective_keys_fit, init_section_fits, date_range_fits}

-- a number of 64 bits
abbrev pub is_well_formed_number : ℕ → Bool
is_well_formed_number n = nat_lt n (2 ^ 64)

-- ---- a segment by itself

abbrev pub well_formed_numbers_are_words : OutSegment → Bool
well_formed_numbers_are_words out = is_well_formed_number out.media_sequence && is_well_formed_number out.discontinuity_sequence

abbrev pub well_formed_resource_fits : Segment → Bool
well_formed_resource_fits segment = uri_fits segment.uri && if_some byte_range_fits segment.byte_range

abbrev pub well_formed_segment_fits : OutSegment → Bool
well_formed_segment_fits out =
    well_formed_numbers_are_words out && well_formed_resource_fits out.segment && effective_keys_fit out.segment.keys && if_some init_section_fits out.segment.init_section
    && duration_fits out.segment.duration && is_clean out.segment.title && if_some in_range out.program_date_time

-- ---- numbers (4.3.3.2, 4.3.3.3)

abbrev pub out_numbers : OutSegment → Numbers
out_numbers out = record { media_sequence = out.media_sequence; discontinuity_sequence = out.discontinuity_sequence; discontinuities = out.discontinuities }

abbrev pub out_numbers_rise : List OutSegment → Bool
out_numbers_rise = numbers_rise out_numbers

-- ---- the whole

abbrev pub written_segment_has_init_section : OutSegment → Bool
written_segment_has_init_section out = is_some out.segment.init_section

-- all have an initialisation section, or none has
abbrev pub written_init_sections_agree : List OutSegment → Bool
written_init_sections_agree segments = list_all written_segment_has_init_section segments || not (list_any written_segment_has_init_section segments)

abbrev pub written_version_fits : ℕ → Bool
written_version_fits version = version == 6 || version == 7

abbrev pub well_formed_without_date_ranges : OutPlaylist → Bool
well_formed_without_date_ranges p =
    written_version_fits p.version && is_well_formed_number p.target_duration && out_numbers_rise p.segments && list_all well_formed_segment_fits p.segments
    && written_init_sections_agree p.segments

abbrev pub well_formed : OutPlaylist → Bool
well_formed p = well_formed_without_date_ranges p && list_all date_range_fits p.date_ranges
