-- If exactly the used breaks are in use again, the store stays as it is.
use Rattle.std.proofs.Common.{◌≡◌, ℕ, Bool, true, false, cond, ◌||◌, List, [], ◌∷◌, map, refl, sym, ap, ◌∙◌, true≢false, String, string_bytes, Some, arith}
use Rattle.std.specs.Prelude.{Option, bytes_eq, string_eq, is_some, find}
use Rattle.std.specs.List.{AllByRecursion, IsDistinct}
use Rattle.std.specs.Map.{keys_of}
use Rattle.std.specs.declared.alloc.Global.{Global}
use Rattle.std.proofs.lemmas.Slice.Eq.{bytes_eq-Decides}
use Rattle.pod_store.specs.Pods.{Pod}
use Rattle.pod_store.specs.declared.kept.StoredPod.{StoredPod}
use Rattle.pod_store.specs.Store.{Entry, Store, has_id, has_own, is_one_of, held_in_use, with_copies, kept_in_use}
use Rattle.pod_store.specs.Kept.{entry_of}
use Rattle.pod_store.specs.Inner.Kept.{PodsById, used_ids}
use Rattle.pod_store.proofs.KeptLaws.{store_of}

itself : (a : List ℕ) → bytes_eq a a ≡ true
itself a = (bytes_eq-Decides a a).1 refl

turned : (a b : List ℕ) → bytes_eq a b ≡ false → bytes_eq b a ≡ false
turned a b e = grind (arith, bytes_eq-Decides)

-- ---- no copy is made

some_cond : (b : Bool) (e : Entry) (o : Option Entry) → is_some o ≡ true → is_some (cond b (Some e) o) ≡ true
some_cond true e o h = refl
some_cond false e o h = h

own_cond : (pair : String Global × StoredPod) (later : PodsById) (id : List ℕ) (used : Bool)
    → (is_one_of (used_ids later) id ≡ true → is_some (find (has_id id) (map entry_of later)) ≡ true)
    → is_one_of (cond used (string_bytes pair.0 ∷ used_ids later) (used_ids later)) id ≡ true
    → is_some (cond (bytes_eq id (string_bytes pair.0)) (Some (entry_of pair)) (find (has_id id) (map entry_of later))) ≡ true
own_cond pair later id used rec h = grind arith

own_there : (pairs : PodsById) (id : List ℕ) → is_one_of (used_ids pairs) id ≡ true → is_some (find (has_id id) (map entry_of pairs)) ≡ true
own_there [] id h = absurd (true≢false (sym h))
own_there (pair ∷ later) id h = own_cond pair later id pair.1.used (own_there later id) h

either_true : (a : Bool) → (a || true) ≡ true
either_true true = refl
either_true false = refl

pub copies_none : (store : Store) (ids : List (List ℕ)) → ((id : List ℕ) → is_one_of ids id ≡ true → has_own store id ≡ true) → with_copies store ids ≡ store
copies_none store [] own = refl
copies_none store (x ∷ ids) own =
    grind (arith, copies_none store ids (λ id h. own id (ap (λ b. bytes_eq id x || b) h ∙ either_true (bytes_eq id x))), itself)

-- ---- each break is used as it was

abbrev IsTold : List (List ℕ) → String Global × StoredPod → Type 0
IsTold ids pair = is_one_of ids (string_bytes pair.0) ≡ pair.1.used

none_cond : (id : List ℕ) (pair : String Global × StoredPod) (later : PodsById) (used : Bool) → bytes_eq id (string_bytes pair.0) ≡ false → is_one_of (used_ids later) id ≡ false
    → is_one_of (cond used (string_bytes pair.0 ∷ used_ids later) (used_ids later)) id ≡ false
none_cond id pair later true e h = ap (λ b. b || is_one_of (used_ids later) id) e ∙ h
none_cond id pair later false e h = h

none_of : (id : List ℕ) (pairs : PodsById) → AllByRecursion (λ (j : String Global). bytes_eq id (string_bytes j) ≡ false) (keys_of pairs) → is_one_of (used_ids pairs) id ≡ false
none_of id [] h = refl
none_of id (pair ∷ later) h = none_cond id pair later pair.1.used h.0 (none_of id later h.1)

own_told : (pair : String Global × StoredPod) (later : PodsById) (used : Bool) → is_one_of (used_ids later) (string_bytes pair.0) ≡ false
    → is_one_of (cond used (string_bytes pair.0 ∷ used_ids later) (used_ids later)) (string_bytes pair.0) ≡ used
own_told pair later used h = grind (arith, string_bytes, itself)

more_told : (pair : String Global × StoredPod) (ids : List (List ℕ)) (used : Bool) (pairs : PodsById) → AllByRecursion (λ (j : String Global). bytes_eq (string_bytes pair.0) (string_bytes j) ≡ false) (keys_of pairs)
    → AllByRecursion (IsTold ids) pairs → AllByRecursion (IsTold (cond used (string_bytes pair.0 ∷ ids) ids)) pairs
more_told pair ids false pairs apart h = h
more_told pair ids true [] apart h = tt
more_told pair ids true (p ∷ later) apart h = grind (arith, more_told pair ids true later apart.1 h.1, turned)

all_told : (pairs : PodsById) → IsDistinct string_eq (keys_of pairs) → AllByRecursion (IsTold (used_ids pairs)) pairs
unfolding IsDistinct
all_told [] d = tt
all_told (pair ∷ later) d = grind (arith, own_told, none_of, string_bytes, more_told, all_told later d.1)

held_same : (ids : List (List ℕ)) (pairs : PodsById) → AllByRecursion (IsTold ids) pairs → held_in_use ids (map entry_of pairs) ≡ map entry_of pairs
held_same ids [] h = refl
held_same ids (pair ∷ later) h = grind (arith, held_same ids later h.1)

stays : (pairs : PodsById) (fallback : Option Pod) → IsDistinct string_eq (keys_of pairs) → kept_in_use (used_ids pairs) (store_of pairs fallback) ≡ store_of pairs fallback
stays pairs fallback d = grind (arith, all_told, copies_none, held_same, own_there)

pub used_again : (pairs : PodsById) (fallback : Option Pod) (store : Store) (ids : List (List ℕ)) → store_of pairs fallback ≡ store → IsDistinct string_eq (keys_of pairs) → ids ≡ used_ids pairs
    → store ≡ kept_in_use ids store
used_again pairs fallback store ids view_is d is = grind (arith, store_of, stays)
