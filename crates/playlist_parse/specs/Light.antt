-- Lines that are read without memory: tags of the whole playlist (RFC 8216, 4.3.1 and 4.3.3), and lines that say nothing.
use Rattle.std.specs.Prelude.{ℕ, List, [], ◌∷◌}
use Rattle.playlist_model.specs.Lines.{Kind, ignored, uri, tag, kind_of}
use Rattle.playlist_model.specs.Said.{Name, version_tag, target_tag, sequence_tag, discontinuity_sequence_tag, type_tag, ended_tag, independent_tag, frames_tag, master_tag, unknown_tag}
use Rattle.playlist_model.specs.Reading.{name_of}

abbrev pub IsOfWhole : Name → Type 0
IsOfWhole version_tag = Unit {0}
IsOfWhole target_tag = Unit {0}
IsOfWhole sequence_tag = Unit {0}
IsOfWhole discontinuity_sequence_tag = Unit {0}
IsOfWhole type_tag = Unit {0}
IsOfWhole ended_tag = Unit {0}
IsOfWhole independent_tag = Unit {0}
IsOfWhole frames_tag = Unit {0}
IsOfWhole master_tag = Unit {0}
IsOfWhole unknown_tag = Unit {0}
IsOfWhole _ = ⊥

abbrev pub IsLightKind : Kind → Type 0
IsLightKind ignored = Unit {0}
IsLightKind (uri reference) = ⊥
IsLightKind (tag name rest colon) = IsOfWhole (name_of name colon)

abbrev pub IsLight : List ℕ → Type 0
IsLight line = IsLightKind (kind_of line)

abbrev pub AreLight : List (List ℕ) → Type 0
AreLight [] = Unit {0}
AreLight (line ∷ later) = IsLight line × AreLight later
