-- What the header's tags have said at a line, looking back from it (RFC 8216, sections 4.3.1, 4.3.3 and 4.3.5).
use Rattle.std.specs.Prelude.{ℕ, Bool, List, Option}
use Rattle.playlist_model.specs.declared.PlaylistKind.{PlaylistKind}
use Rattle.playlist_model.specs.Said.{Said}
use Rattle.playlist_model.specs.LookBack.{latest, the_version, the_target, the_sequence, the_discontinuity_sequence, the_type, is_media, is_independent, is_ended}
use Rattle.playlist_model.specs.Reading.{is_set, has}

-- and whether the tags stood that they may not follow
pub record Heading : Type 0 where
  pub version : Option ℕ
  pub target_duration : Option ℕ
  pub playlist_type : Option PlaylistKind
  pub independent_segments : Bool
  pub end_list : Bool
  pub has_sequence : Bool
  pub has_discontinuity_sequence : Bool
  pub has_media : Bool

abbrev pub heading_at : List Said → Heading
heading_at before = record {
  version = latest the_version before;
  target_duration = latest the_target before;
  playlist_type = latest the_type before;
  independent_segments = has is_independent before;
  end_list = has is_ended before;
  has_sequence = is_set the_sequence before;
  has_discontinuity_sequence = is_set the_discontinuity_sequence before;
  has_media = has is_media before;
}
