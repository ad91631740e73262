-- The breaks that are in use are kept.
use Rattle.std.proofs.Common.{◌≡◌, ℕ, Bool, true, false, cond, List, [], ◌∷◌, map, refl, ap, ◌∙◌, subst}
use Rattle.std.specs.Prelude.{filter, String, not, ◌||◌}
use Rattle.std.specs.Map.Calls.{RetainsPairs}
use Rattle.std.specs.declared.alloc.Global.{Global}
use Rattle.pod_store.specs.declared.kept.StoredPod.{StoredPod}
use Rattle.pod_store.specs.Store.{Entry, is_one_of, is_held, held_in_use}
use Rattle.pod_store.specs.Kept.{entry_of}
use Rattle.pod_store.specs.Inner.Kept.{PodsById, is_pair_held, used_if, pairs_in_use}

pushed : {A B : Type 0} (G : A → B) (b : Bool) (x : A) (xs : List A) → cond b (G x ∷ map G xs) (map G xs) ≡ map G (cond b (x ∷ xs) xs)
pushed G true x xs = refl
pushed G false x xs = refl

-- what a map's `retain` leaves, if the closure keeps no state and writes these values
module _ {K X F : Type 0} (T : F → K → X → Bool → X → F → Type 0) (test : K × X → Bool) (set : K → X → X) (f : F)
    (says : (k : K) (v : X) (b : Bool) (w : X) (g : F) → T f k v b w g → (b ≡ test (k, v)) × (w ≡ set k v) × (g ≡ f)) where
  pub mapped-RetainsPairs : (es kept : List (K × X)) → RetainsPairs T f es kept → kept ≡ map (λ (e : K × X). (e.0, set e.0 e.1)) (filter test es)
  mapped-RetainsPairs [] kept h = h
  mapped-RetainsPairs (e ∷ es) kept h =
      let s = says e.0 e.1 h.0 h.1 h.2 h.4 in
      let rest = mapped-RetainsPairs es h.3 (subst (λ g. RetainsPairs T g es h.3) s.2 h.5) in
      h.6 ∙ ((λ j. cond (s.0 j) ((e.0, s.1 j) ∷ rest j) (rest j)) ∙ pushed (λ (e : K × X). (e.0, set e.0 e.1)) (test e) e (filter test es))

module _ (ids : List (List ℕ)) where
  abbrev pair_now : String Global × StoredPod → String Global × StoredPod
  pair_now pair = (pair.0, used_if ids pair.0 pair.1)

  abbrev entry_now : Entry → Entry
  entry_now e = record e { used = is_one_of ids e.id }

  step : (pair : String Global × StoredPod) (pairs : PodsById) (entries : List Entry) (b : Bool) → map entry_of (map pair_now pairs) ≡ map entry_now entries
      → map entry_of (map pair_now (cond b (pair ∷ pairs) pairs)) ≡ map entry_now (cond b (entry_of pair ∷ entries) entries)
  step pair pairs entries true rec = ap (λ xs. entry_now (entry_of pair) ∷ xs) rec
  step pair pairs entries false rec = rec

  -- the store sees them as its entries
  pub seen_in_use : (pairs : PodsById) → map entry_of (pairs_in_use ids pairs) ≡ held_in_use ids (map entry_of pairs)
  seen_in_use [] = refl
  seen_in_use (pair ∷ later) = step pair (filter (is_pair_held ids) later) (filter (is_held ids) (map entry_of later)) (is_pair_held ids pair) (seen_in_use later)

-- the same breaks are in use by another list of the same IDs
module _ (set ids : List (List ℕ)) (same : (id : List ℕ) → is_one_of set id ≡ is_one_of ids id) where
  alike_by : (e : Entry) (later : List Entry) (b : Bool) → held_in_use set later ≡ held_in_use ids later
      → map (entry_now set) (cond b (e ∷ filter (is_held set) later) (filter (is_held set) later)) ≡ map (entry_now ids) (cond b (e ∷ filter (is_held ids) later) (filter (is_held ids) later))
  alike_by e later true rec =
      ap (λ (u : Bool). record e { used = u } ∷ map (entry_now set) (filter (is_held set) later)) (same e.id) ∙ ap (λ xs. entry_now ids e ∷ xs) rec
  alike_by e later false rec = rec

  pub held_alike : (entries : List Entry) → held_in_use set entries ≡ held_in_use ids entries
  held_alike [] = refl
  held_alike (e ∷ later) =
      ap (λ (u : Bool). map (entry_now set) (cond (not e.used || u) (e ∷ filter (is_held set) later) (filter (is_held set) later))) (same e.id)
      ∙ alike_by e later (not e.used || is_one_of ids e.id) (held_alike later)

  -- so they are what a store sees that keeps them by it
  pub seen_alike : (pairs : PodsById) → map entry_of (pairs_in_use set pairs) ≡ held_in_use ids (map entry_of pairs)
  seen_alike pairs = seen_in_use set pairs ∙ held_alike (map entry_of pairs)
