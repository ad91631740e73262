-- If exactly the breaks that have pods of their own are in use, in their order, each of them is used, and none goes.
use Rattle.std.proofs.Common.{◌≡◌, ℕ, true, List, [], ◌∷◌, map, refl, sym, ap, ◌∙◌, true≢false, String, string_bytes, arith}
use Rattle.std.specs.Prelude.{Option, bytes_eq, is_some, find, filter}
use Rattle.std.specs.List.{AllByRecursion}
use Rattle.std.specs.declared.alloc.Global.{Global}
use Rattle.std.proofs.lemmas.Slice.Eq.{bytes_eq-Decides}
use Rattle.pod_store.specs.Pods.{Pod}
use Rattle.pod_store.specs.declared.kept.StoredPod.{StoredPod}
use Rattle.pod_store.specs.Store.{Entry, Store, with_entries, has_id, is_one_of, held_in_use, kept_in_use}
use Rattle.pod_store.specs.Kept.{entry_of}
use Rattle.pod_store.specs.Inner.Kept.{PodsById, all_marked, pod_ids}
use Rattle.pod_store.proofs.KeptLaws.{store_of}
use Rattle.pod_store.proofs.UsedAgain.{copies_none}

itself : (a : List ℕ) → bytes_eq a a ≡ true
itself a = (bytes_eq-Decides a a).1 refl

there : (pairs : PodsById) (id : List ℕ) → is_one_of (pod_ids pairs) id ≡ true → is_some (find (has_id id) (map entry_of pairs)) ≡ true
there [] id h = absurd (true≢false (sym h))
there (pair ∷ later) id h = grind (arith, there later id, string_bytes)

abbrev IsAmong : List (List ℕ) → String Global × StoredPod → Type 0
IsAmong ids pair = is_one_of ids (string_bytes pair.0) ≡ true

among_more : (id : List ℕ) (ids : List (List ℕ)) (pairs : PodsById) → AllByRecursion (IsAmong ids) pairs → AllByRecursion (IsAmong (id ∷ ids)) pairs
among_more id ids [] h = tt
among_more id ids (pair ∷ later) h = grind (arith, among_more id ids later h.1)

all_among : (pairs : PodsById) → AllByRecursion (IsAmong (pod_ids pairs)) pairs
all_among [] = tt
all_among (pair ∷ later) = grind (arith, itself, among_more, all_among later)

all_held : (ids : List (List ℕ)) (pairs : PodsById) → AllByRecursion (IsAmong ids) pairs → held_in_use ids (map entry_of pairs) ≡ map entry_of (all_marked pairs)
all_held ids [] h = refl
all_held ids (pair ∷ later) h = grind (arith, all_held ids later h.1)

all_used : (pairs : PodsById) (fallback : Option Pod) → kept_in_use (pod_ids pairs) (store_of pairs fallback) ≡ store_of (all_marked pairs) fallback
all_used pairs fallback =
    let store = store_of pairs fallback in
    let ids = pod_ids pairs in
    ap (λ (s : Store). with_entries store (held_in_use ids s.entries)) (copies_none store ids (λ id h. there pairs id h))
    ∙ ap (λ (entries : List Entry). with_entries store entries) (all_held ids pairs (all_among pairs))

-- a `retain` that keeps each
pub kept_each : {A : Type 0} (xs : List A) → filter (λ (x : A). true) xs ≡ xs
kept_each [] = refl
kept_each (x ∷ xs) = ap (λ ys. x ∷ ys) (kept_each xs)

pub used_all : (pairs : PodsById) (fallback : Option Pod) (store : Store) (ids : List (List ℕ)) → store_of pairs fallback ≡ store → ids ≡ pod_ids pairs
    → store_of (all_marked pairs) fallback ≡ kept_in_use ids store
used_all pairs fallback store ids view_is is = grind (arith, store_of, all_used)
