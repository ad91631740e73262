-- What proofs and inner functions say with the definitions of `Kept`.
use Rattle.std.specs.Prelude.{ℕ, Bool, true, not, ◌||◌, List, [], ◌∷◌, map, filter, String, Option, Some, None, string_bytes, bytes_eq, if◌then◌else◌}
use Rattle.std.specs.Map.{lookup, remove_entry, set_value}
use Rattle.std.specs.declared.alloc.Global.{Global}
use Rattle.pod_store.specs.declared.kept.StoredPod.{StoredPod}
use Rattle.pod_store.specs.Store.{is_one_of}

abbrev pub PodsById : Type 0
PodsById = List (String Global × StoredPod)

abbrev pub is_pod_key : List ℕ → String Global → Bool
is_pod_key id key = bytes_eq id (string_bytes key)

abbrev pub pod_kept_for : List ℕ → PodsById → Option StoredPod
pod_kept_for id kept = lookup (is_pod_key id) kept

abbrev pub kept_without : List ℕ → PodsById → PodsById
kept_without id kept = remove_entry (is_pod_key id) kept

abbrev pub marked_as : List ℕ → PodsById → Option StoredPod → PodsById
marked_as id kept None = kept
marked_as id kept (Some k) = set_value (is_pod_key id) kept (record k { used = true })

abbrev pub kept_marked : List ℕ → PodsById → PodsById
kept_marked id kept = marked_as id kept (pod_kept_for id kept)

abbrev pub is_pair_held : List (List ℕ) → String Global × StoredPod → Bool
is_pair_held ids pair = not pair.1.used || is_one_of ids (string_bytes pair.0)

abbrev pub used_if : List (List ℕ) → String Global → StoredPod → StoredPod
used_if ids key kept = record kept { used = is_one_of ids (string_bytes key) }

abbrev pub pairs_in_use : List (List ℕ) → PodsById → PodsById
pairs_in_use ids pairs = map (λ (pair : String Global × StoredPod). (pair.0, used_if ids pair.0 pair.1)) (filter (is_pair_held ids) pairs)

-- the breaks that are used, in their order
abbrev pub used_ids : PodsById → List (List ℕ)
used_ids [] = []
used_ids (pair ∷ later) = if pair.1.used then string_bytes pair.0 ∷ used_ids later else used_ids later

-- the breaks, in their order
abbrev pub pod_ids : PodsById → List (List ℕ)
pod_ids pairs = map (λ (pair : String Global × StoredPod). string_bytes pair.0) pairs

-- each break is used
abbrev pub all_marked : PodsById → PodsById
all_marked pairs = map (λ (pair : String Global × StoredPod). (pair.0, record pair.1 { used = true })) pairs
