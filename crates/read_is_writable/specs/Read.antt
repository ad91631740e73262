-- What holds of each playlist that is read, in the terms in which one can be written (RFC 8216, section 4.3).
use Rattle.std.specs.Prelude.{◌≡◌, ℕ, Bool, true, not, ◌&&◌, ◌||◌, nat_le, List, Ok}
use Rattle.std.specs.List.{list_any, list_all, AllByRecursion}
use Rattle.playlist_model.specs.Segments.{Segment}
use Rattle.playlist_model.specs.declared.DateRange.{DateRange}
use Rattle.playlist_model.specs.declared.Playlist.{Playlist}
use Rattle.date_times.specs.Instant.{in_range}
use Rattle.playlist_model.specs.Said.{Reader, date_range, date_range_said}
use Rattle.playlist_model.specs.Reading.{has_init_section}
use Rattle.playlist_model.specs.Numbering.{segment_numbers, numbers_rise}
use Rattle.writable.specs.Fitting.{if_some, is_clean, effective_keys_fit, init_section_fits}
use Rattle.playlist_write.specs.WellFormed.{is_well_formed_number, duration_fits, well_formed_resource_fits}

-- a version that is supported
abbrev pub version_reads : ℕ → Bool
version_reads version = nat_le 1 version && nat_le version 7

-- ---- a segment by itself

abbrev pub numbers_are_words : Segment → Bool
numbers_are_words s = is_well_formed_number s.media_sequence && is_well_formed_number s.discontinuity_sequence

-- it can be written with its own numbers and time
abbrev pub segment_can_be_written : Segment → Bool
segment_can_be_written s =
    numbers_are_words s && well_formed_resource_fits s && effective_keys_fit s.keys && if_some init_section_fits s.init_section && duration_fits s.duration
    && is_clean s.title && if_some in_range s.program_date_time

-- ---- numbers (4.3.3.2, 4.3.3.3)

abbrev pub numbers_read : List Segment → Bool
numbers_read = numbers_rise segment_numbers

-- ---- the whole

-- all have an initialisation section, or none has
abbrev pub init_sections_agree : List Segment → Bool
init_sections_agree segments = list_all has_init_section segments || not (list_any has_init_section segments)

-- a date range that its own text says
abbrev pub IsSaidBy : Reader → DateRange → Type 0
IsSaidBy reader r = date_range_said reader r.attributes ≡ Ok (date_range r)

abbrev pub text_is_clean : DateRange → Bool
text_is_clean r = is_clean r.attributes

pub record AreRead (reader : Reader) (p : Playlist) : Type 0 where
  pub version : version_reads p.version ≡ true
  pub target_duration : is_well_formed_number p.target_duration ≡ true
  pub numbers : numbers_read p.segments ≡ true
  pub segments : list_all segment_can_be_written p.segments ≡ true
  pub init_sections : init_sections_agree p.segments ≡ true
  pub date_ranges : AllByRecursion (IsSaidBy reader) p.date_ranges
  pub date_range_texts : list_all text_is_clean p.date_ranges ≡ true
