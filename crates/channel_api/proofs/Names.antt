-- A name that no value has.
use Rattle.std.proofs.Common.{◌≡◌, ℕ, List, refl, sym, subst, false, true≢false}
use Rattle.std.specs.Prelude.{Option, Some, None, is_some, bytes_eq, String, string_bytes}
use Rattle.std.specs.Map.{lookup}
use Rattle.channel_api.specs.Named.{has_this_key}

pub none_is : {X : Type 0} (o : Option X) → is_some o ≡ false → o ≡ None
none_is None h = refl
none_is (Some x) h = absurd (true≢false h)

-- the same of the text that is kept as its key
pub none_of : {A V : Type 0} (entries : List (String A × V)) (name : List ℕ) (key : String A) → lookup (has_this_key name) entries ≡ None → string_bytes key ≡ name
    → lookup (λ k. bytes_eq (string_bytes key) (string_bytes k)) entries ≡ None
none_of entries name key h n = subst (λ m. lookup (has_this_key m) entries ≡ None) (sym n) h
