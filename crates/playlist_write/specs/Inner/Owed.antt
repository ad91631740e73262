-- What proofs and inner functions say with the definitions of `Owed`.
use Rattle.playlist_write.specs.Owed.{line_saying}
use Rattle.std.specs.Prelude.{ℕ, List, map}
use Rattle.playlist_model.specs.declared.Key.{Key}
use Rattle.playlist_model.specs.declared.InitSection.{InitSection}
use Rattle.playlist_model.specs.Said.{Said, key, key_tag_said, init_section}
use Rattle.playlist_model.specs.declared.KeyTag.TheVariants.{Set}

-- ---- the lines of a segment

-- tags that set these keys
abbrev pub set_tags : List Key → List Said
set_tags keys = map key_tag_said (map Set keys)

-- ---- the whole

abbrev pub key_line : Key → List ℕ
key_line k = line_saying (key k)

abbrev pub init_section_line : InitSection → List ℕ
init_section_line s = line_saying (init_section s.uri s.byte_range)
