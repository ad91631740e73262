-- The IDs of a set, as it keeps them.
use Rattle.std.specs.Prelude.{ℕ, List, map, String, string_bytes}
use Rattle.std.specs.declared.alloc.Global.{Global}

abbrev pub ids_of : List (String Global) → List (List ℕ)
ids_of keys = map string_bytes keys
