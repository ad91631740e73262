-- Values under names.
use Rattle.std.specs.Prelude.{◌≡◌, ◌≤◌, ◌<◌, ℕ, Bool, List, [], ◌∷◌, ◌++◌, length, bytes_eq, None, IsSome, Result, Ok, Err, String, string_bytes}
use Rattle.std.specs.Map.{lookup}
use Rattle.channel_api.specs.declared.named.Naming.{Naming}
use Rattle.channel_api.specs.declared.named.Naming.TheVariants as naming

abbrev pub has_this_key : {A : Type 0} → List ℕ → String A → Bool
has_this_key name key = bytes_eq name (string_bytes key)

-- it stands after the others, or else they are as they were: the name is taken, there are as many as there may be, or
-- an allocation failed, which is told only if it could have been put there
abbrev pub PutsNamed : {A V E : Type 0} → ℕ → List ℕ → V → List (String A × V) → Result Naming E → List (String A × V) → Type 0
PutsNamed most name value old (Ok naming.Done) new =
    (lookup (has_this_key name) old ≡ None) × (length old < most) × (key : _) × (string_bytes key ≡ name) × (new ≡ old ++ (key, value) ∷ [])
PutsNamed most name value old (Ok naming.Taken) new = IsSome (lookup (has_this_key name) old) × (new ≡ old)
PutsNamed most name value old (Ok naming.Full) new = (lookup (has_this_key name) old ≡ None) × (most ≤ length old) × (new ≡ old)
PutsNamed most name value old (Err e) new = (lookup (has_this_key name) old ≡ None) × (length old < most) × (new ≡ old)
