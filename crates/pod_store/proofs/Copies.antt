-- Copies of the fallback stand after what was there.
use Rattle.std.proofs.Common.{◌≡◌, ℕ, Bool, true, false, cond, ◌||◌, List, [], ◌∷◌, ◌++◌, map, length, take, refl, ap, sym, ◌∙◌, Some, None, arith}
use Rattle.std.specs.Prelude.{Option, is_some, find, option_map, bytes_eq}
use Rattle.std.proofs.lemmas.Slice.Eq.{bytes_eq-Decides}
use Rattle.std.proofs.lemmas.Bool.{or_parts}
use Rattle.std.proofs.lemmas.List.{take-map, length-map}
use Rattle.std.proofs.Math.Seq.{take-append_seam}
use Rattle.playlist_model.specs.LookBack.{or_earlier}
use Rattle.pod_store.specs.Pods.{Pod}
use Rattle.pod_store.specs.Store.{Entry, Store, with_entries, has_id, pod_of, entry_for, has_own, own_pod, pod_for, is_one_of, copied_last, with_copy, with_copies}
use Rattle.pod_store.specs.Inner.Store.{GrowsBy}
use Rattle.pod_store.specs.Kept.{entry_of}
use Rattle.pod_store.specs.Inner.Kept.{PodsById}
use Rattle.pod_store.proofs.KeptLaws.{store_of}

-- ---- one copy

abbrev pub entry_in : List Entry → List ℕ → Option Entry
entry_in entries id = find (has_id id) entries

abbrev pub pod_if : Option Entry → Option Pod
pod_if o = option_map pod_of o

abbrev pub pod_at : List Entry → List ℕ → Option Pod
pod_at entries id = pod_if (entry_in entries id)

pub none_there : (o : Option Entry) → is_some o ≡ false → o ≡ None
none_there None h = refl
none_there (Some e) h = absurd (cc)

entry_last : (id : List ℕ) (entries : List Entry) (x : Entry) → entry_in (entries ++ (x ∷ [])) id ≡ or_earlier (entry_in entries id) (cond (bytes_eq id x.id) (Some x) None)
entry_last id [] x = refl
entry_last id (e ∷ entries) x = grind (arith, entry_last id entries x)

or_nothing : (o : Option Entry) → or_earlier o None ≡ o
or_nothing None = refl
or_nothing (Some e) = refl

pub copy_other : (id other : List ℕ) (entries : List Entry) (pod : Option Pod) → bytes_eq id other ≡ false → entry_in (copied_last entries other pod) id ≡ entry_in entries id
copy_other id other entries pod h = grind (arith, entry_last)

pub copy_own : (id : List ℕ) (entries : List Entry) (pod : Option Pod) → entry_in entries id ≡ None → pod_at (copied_last entries id pod) id ≡ pod
copy_own id entries pod h = grind (arith, bytes_eq-Decides, entry_last)

-- what stands stays
copy_keeps : (id other : List ℕ) (entries : List Entry) (pod : Option Pod) (e : Entry) → entry_in entries id ≡ Some e → entry_in (copied_last entries other pod) id ≡ Some e
copy_keeps id other entries pod e h = grind (arith, entry_last)

entry_stays_copy : (store : Store) (other id : List ℕ) (e : Entry) → entry_for store id ≡ Some e → entry_for (with_copy store other) id ≡ Some e
entry_stays_copy store other id e h = grind (arith, copy_keeps)

fallback_stays : (store : Store) (other : List ℕ) → (with_copy store other).fallback ≡ store.fallback
fallback_stays store other = grind arith

-- a break has the pod that it is filled with of its own then
own_copy : (store : Store) (id : List ℕ) → own_pod (with_copy store id) id ≡ pod_for store id
own_copy store id = grind (arith, copy_own)

-- and no break is filled with another pod
pod_stays_copy : (store : Store) (other id : List ℕ) → pod_for (with_copy store other) id ≡ pod_for store id
pod_stays_copy store other id = grind (arith, bytes_eq-Decides, copy_other, own_copy)

-- ---- copies for some breaks

pub entry_stays : (store : Store) (ids : List (List ℕ)) (id : List ℕ) (e : Entry) → entry_for store id ≡ Some e → entry_for (with_copies store ids) id ≡ Some e
entry_stays store [] id e h = h
entry_stays store (x ∷ ids) id e h = entry_stays (with_copy store x) ids id e (entry_stays_copy store x id e h)

pub pod_stays : (store : Store) (ids : List (List ℕ)) (id : List ℕ) → pod_for (with_copies store ids) id ≡ pod_for store id
pod_stays store [] id = refl
pod_stays store (x ∷ ids) id = pod_stays (with_copy store x) ids id ∙ pod_stays_copy store x id

own_entry : (o : Option Entry) (pod : Pod) → pod_if o ≡ Some pod → (e : Entry) × ((o ≡ Some e) × (e.pod ≡ pod))
own_entry None pod h = absurd (cc)
own_entry (Some e) pod h = let same : e.pod ≡ pod = cc in (e, (refl, same))

-- each of them has the pod that it is filled with of its own then
pub all_own : (store : Store) (ids : List (List ℕ)) (id : List ℕ) (pod : Pod) → is_one_of ids id ≡ true → pod_for store id ≡ Some pod
    → (e : Entry) × ((entry_for (with_copies store ids) id ≡ Some e) × (e.pod ≡ pod))
all_own store [] id pod h p = absurd (cc)
all_own store (x ∷ ids) id pod h p = by (bytes_eq id x) refl (λ k. all_own (with_copy store x) ids id pod k (pod_stays_copy store x id ∙ p)) h
  where
    by : (t : Bool) → bytes_eq id x ≡ t → (is_one_of ids id ≡ true → (e : Entry) × ((entry_for (with_copies (with_copy store x) ids) id ≡ Some e) × (e.pod ≡ pod))) → (t || is_one_of ids id) ≡ true → (e : Entry) × ((entry_for (with_copies (with_copy store x) ids) id ≡ Some e) × (e.pod ≡ pod))
    by true k rec h =
        let same = (bytes_eq-Decides id x).0 k in
        let own = own_entry (entry_for (with_copy store x) id) pod (ap (λ i. own_pod (with_copy store i) id) (sym same) ∙ (own_copy store id ∙ p)) in
        (own.0, (entry_stays (with_copy store x) ids id own.0 own.1.0, own.1.1))
    by false k rec h = rec h

-- the fallback stays what it is
pub fallback_stands : (store : Store) (ids : List (List ℕ)) → (with_copies store ids).fallback ≡ store.fallback
fallback_stands store [] = refl
fallback_stands store (x ∷ ids) = fallback_stands (with_copy store x) ids ∙ fallback_stays store x

-- a break has the pod then that it is filled with, if it is one of these, and else what it had
copy_pod : (id other : List ℕ) (store : Store) → own_pod (with_copy store other) id ≡ cond (bytes_eq id other) (pod_for store id) (own_pod store id)
copy_pod id other store = grind (arith, bytes_eq-Decides, copy_other, own_copy)

pub copies_pod : (store : Store) (ids : List (List ℕ)) (id : List ℕ) → own_pod (with_copies store ids) id ≡ cond (is_one_of ids id) (pod_for store id) (own_pod store id)
copies_pod store [] id = refl
copies_pod store (x ∷ ids) id = grind (arith, copies_pod (with_copy store x) ids id, copy_pod)

-- one that is none of these stands as it did
pub other_stands : (store : Store) (ids : List (List ℕ)) (id : List ℕ) → is_one_of ids id ≡ false → entry_for (with_copies store ids) id ≡ entry_for store id
other_stands store [] id h = refl
other_stands store (x ∷ ids) id h = let p = or_parts _ _ h in other_stands (with_copy store x) ids id p.1 ∙ apart p.0 (has_own store x)
  where
    apart : bytes_eq id x ≡ false → (b : Bool) → entry_for (cond b store (with_entries store (copied_last store.entries x store.fallback))) id ≡ entry_for store id
    apart e true = refl
    apart e false = copy_other id x store.entries store.fallback e

-- ---- what comes after what was there

-- what is left of a store that has grown, up to what was there
pub truncated : (es new : PodsById) (fallback now_fallback : Option Pod) (store now : Store) (n : ℕ) → store_of es fallback ≡ store → n ≡ length es → store_of new now_fallback ≡ now → GrowsBy store now
    → store_of (take n new) now_fallback ≡ store
truncated es new fallback now_fallback store now n view_is n_is now_is (more, grown) =
    let fallbacks : now_fallback ≡ store.fallback = ap (λ (s : Store). s.fallback) (now_is ∙ grown) in
    let entries : map entry_of new ≡ store.entries ++ more = ap (λ (s : Store). s.entries) (now_is ∙ grown) in
    let count : n ≡ length store.entries = n_is ∙ (sym (length-map es entry_of) ∙ ap (λ (s : Store). length s.entries) view_is) in
    ap (λ l. record { entries = l; fallback = now_fallback }) (sym (take-map entry_of n new) ∙ (ap (take n) entries ∙ (ap (λ k. take k (store.entries ++ more)) count ∙ take-append_seam store.entries more)))
    ∙ ap (λ (f : Option Pod). record { entries = store.entries; fallback = f }) fallbacks
