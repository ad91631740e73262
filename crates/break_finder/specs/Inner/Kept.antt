-- What proofs and inner functions say with the definitions of `Kept`.
use Rattle.std.specs.Prelude.{ℕ, ◌||◌, List, Bool, Option, Some, None, bytes_eq}
use Rattle.std.specs.Map.{lookup}
use Rattle.break_finder.specs.declared.described.Described.{Described}
use Rattle.break_finder.specs.Breaks.{nothing_said_of_break}
use Rattle.pod_store.specs.Store.{is_one_of}
use Rattle.break_finder.specs.Known.{is_this_break}

abbrev pub BreaksById : Type 0
BreaksById = List (List ℕ × Described)

abbrev pub is_break_key : List ℕ → List ℕ → Bool
is_break_key id key = bytes_eq id key

abbrev pub break_kept_for : List ℕ → BreaksById → Option Described
break_kept_for id kept = lookup (is_break_key id) kept

abbrev pub said_or_nothing : Option Described → Described
said_or_nothing None = nothing_said_of_break
said_or_nothing (Some said) = said

-- ---- the IDs of a refresh

-- the ID is one of these, or the mark that is carried
abbrev pub break_stands_with_ids : List (List ℕ) → Option (List ℕ) → List ℕ → Bool
break_stands_with_ids ids carried id = is_one_of ids id || is_this_break id carried

abbrev pub is_kept_with : List (List ℕ) → Option (List ℕ) → List ℕ × Described → Bool
is_kept_with ids carried kept = break_stands_with_ids ids carried kept.0
