-- The IDs of a set after one is inserted.
use Rattle.std.proofs.Common.{◌≡◌, ℕ, Bool, true, false, cond, not, ◌||◌, List, [], ◌∷◌, ◌++◌, refl, ap, ◌∙◌, arith, String, string_bytes}
use Rattle.std.specs.Prelude.{bytes_eq, string_eq}
use Rattle.std.specs.List.{list_any}
use Rattle.std.specs.declared.alloc.Global.{Global}
use Rattle.indexmap.specs.IndexSet.{insert_key}
use Rattle.pod_store.specs.Store.{is_one_of}
use Rattle.decision_files.specs.Inner.Ids.{ids_of}

-- whether an ID is one of those that are kept
found_id : (key : String Global) (keys : List (String Global)) → list_any (string_eq key) keys ≡ is_one_of (ids_of keys) (string_bytes key)
found_id key [] = refl
found_id key (k ∷ later) = ap (λ b. bytes_eq (string_bytes key) (string_bytes k) || b) (found_id key later)

ids_after : (keys : List (String Global)) (key : String Global) → ids_of (keys ++ key ∷ []) ≡ ids_of keys ++ string_bytes key ∷ []
ids_after [] key = refl
ids_after (k ∷ later) key = ap (λ ids. string_bytes k ∷ ids) (ids_after later key)

inserted_by : (b : Bool) (keys : List (String Global)) (key : String Global) → ids_of (cond b keys (keys ++ key ∷ [])) ≡ cond (not b) (ids_of keys ++ string_bytes key ∷ []) (ids_of keys)
inserted_by true keys key = refl
inserted_by false keys key = ids_after keys key

-- what stands after an ID is inserted
inserted_id : (key : String Global) (keys : List (String Global)) → ids_of (insert_key string_eq keys key) ≡ cond (not (is_one_of (ids_of keys) (string_bytes key))) (ids_of keys ++ string_bytes key ∷ []) (ids_of keys)
inserted_id key keys = grind (arith, inserted_by, found_id)

-- whether an ID is new, and what stands after it is inserted, if a copy of it is
pub first_said : (key : String Global) (keys : List (String Global)) (id : List ℕ) (old : List (List ℕ)) (first : Bool) → string_bytes key ≡ id → ids_of keys ≡ old → first ≡ not (list_any (string_eq key) keys)
    → first ≡ not (is_one_of old id)
first_said key keys id old first key_is view_is is = is ∙ ap not (found_id key keys ∙ (ap (λ ids. is_one_of ids (string_bytes key)) view_is ∙ ap (is_one_of old) key_is))

pub ids_said : (key : String Global) (keys new : List (String Global)) (id : List ℕ) (old : List (List ℕ)) (first : Bool) → string_bytes key ≡ id → ids_of keys ≡ old → first ≡ not (list_any (string_eq key) keys)
    → new ≡ insert_key string_eq keys key → ids_of new ≡ cond first (old ++ id ∷ []) old
ids_said key keys new id old first key_is view_is is new_is = grind (arith, inserted_id, first_said)
