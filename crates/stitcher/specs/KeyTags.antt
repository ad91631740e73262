-- The key tags that lead from keys in force to others (RFC 8216, section 4.3.2.4).
use Rattle.std.specs.Prelude.{Bool, not, List, [], ◌∷◌, map, filter, if◌then◌else◌}
use Rattle.std.specs.List.{list_any, list_all}
use Rattle.playlist_model.specs.declared.Key.{Key}
use Rattle.playlist_model.specs.LookBack.{has_format, put_key}
use Rattle.playlist_model.specs.declared.KeyTag.{KeyTag}
use Rattle.playlist_model.specs.declared.KeyTag.TheVariants.{End, Set}
use Rattle.playlist_model.specs.Same.{same_key}

-- one of the keys has the format of this one
abbrev pub has_its_format : List Key → Key → Bool
has_its_format keys k = list_any (has_format k.format) keys

-- the key is not among these, as it is
abbrev pub is_new_key : List Key → Key → Bool
is_new_key keys k = not (list_any (same_key k) keys)

-- each format of the old keys is one of the new keys too
abbrev pub keeps_formats : List Key → List Key → Bool
keeps_formats old new = list_all (has_its_format new) old

-- the tags that lead from the old keys to the new: each new or changed key if no format ends, else
-- the end of all and each key
abbrev pub transition : List Key → List Key → List KeyTag
transition old new = if keeps_formats old new then map Set (filter (is_new_key old) new) else End ∷ map Set new

-- the keys in force after a key tag, and after some
abbrev pub after_tag : List Key → KeyTag → List Key
after_tag keys End = []
after_tag keys (Set k) = put_key k keys

abbrev pub after_tags : List Key → List KeyTag → List Key
after_tags keys [] = keys
after_tags keys (tag ∷ later) = after_tags (after_tag keys tag) later
