-- What the tags of the whole playlist say.
use Rattle.playlist_model.specs.Inner.Heading.{Heading}
use Rattle.playlist_kept.specs.declared.heading.ReadHeading.{ReadHeading}

abbrev pub heading_view : ReadHeading → Heading
heading_view a = record {
  version = a.version;
  target_duration = a.target_duration;
  playlist_type = a.playlist_type;
  independent_segments = a.independent_segments;
  end_list = a.end_list;
  has_sequence = a.has_sequence;
  has_discontinuity_sequence = a.has_discontinuity_sequence;
  has_media = a.has_media;
}
