-- Keys as they decrypt one segment (RFC 8216, section 5.2).
use Rattle.std.specs.Prelude.{ℕ, ◌&&◌, Option, Some, None, codes, is_none, bytes_eq, if◌then◌else◌}
use Rattle.playlist_model.specs.declared.Key.{Key}

-- a key of the format `identity` without IV has the Media Sequence Number as IV (5.2)
abbrev pub effective_key : ℕ → Key → Key
effective_key number k = if bytes_eq k.format (codes "identity") && is_none k.iv then record k { iv = Some number } else k

-- a key under this number, or as it stands if there is none
abbrev pub key_under : Option ℕ → Key → Key
key_under None k = k
key_under (Some number) k = effective_key number k
