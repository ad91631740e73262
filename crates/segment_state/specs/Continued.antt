-- What stands after a segment, where lines that were read before go on.
use Rattle.std.specs.Prelude.{◌≡◌, ℕ, ◌+◌, ◌-◌, ◌≤◌, Option, None, List}
use Rattle.playlist_model.specs.declared.Key.{Key}
use Rattle.playlist_model.specs.declared.InitSection.{InitSection}
use Rattle.playlist_model.specs.LookBack.{Standing, Extent}

-- the numbers of the next segment except for its own steps, and what is in force
pub record Stop : Type 0 where
  pub number : ℕ
  pub discontinuity : ℕ
  pub keys : List Key
  pub init_section : Option InitSection
  pub extent : Option Extent

-- no tag of the next segment stands
pub record IsBetween (s : Standing) : Type 0 where
  pub steps : s.discontinuities ≡ 0
  pub duration : s.duration ≡ None
  pub byte_range : s.byte_range ≡ None
  pub time : s.program_date_time ≡ None

-- this stands then
pub record IsStop (s : Standing) (stop : Stop) : Type 0 where
  pub between : IsBetween s
  pub number : s.media_sequence + s.media_count ≡ stop.number
  pub discontinuity : s.discontinuity_sequence + s.discontinuity_count ≡ stop.discontinuity
  pub keys : s.keys ≡ stop.keys
  pub init_section : s.init_section ≡ stop.init_section
  pub extent : s.extent ≡ stop.extent

-- what stands there under the first numbers that a playlist states
abbrev pub stopped_at : Standing → Stop → Standing
stopped_at s stop = record {
  media_sequence = s.media_sequence;
  discontinuity_sequence = s.discontinuity_sequence;
  media_count = stop.number - s.media_sequence;
  discontinuity_count = stop.discontinuity - s.discontinuity_sequence;
  discontinuities = 0;
  duration = None;
  byte_range = None;
  program_date_time = None;
  keys = stop.keys;
  init_section = stop.init_section;
  extent = stop.extent;
}

-- the numbers go on from those
pub record IsReached (s : Standing) (stop : Stop) : Type 0 where
  pub number : s.media_sequence ≤ stop.number
  pub discontinuity : s.discontinuity_sequence ≤ stop.discontinuity
