-- What holds of each pod that is decided holds of each mark.
use Rattle.std.proofs.Common.{ℕ, Bool, true, false, cond, not, List, [], ◌∷◌, ◌++◌, map, subst}
use Rattle.std.specs.Prelude.{Option, Some, None, Ok, fold, option_map, ℤ, bytes_eq, find, filter, nat_lt}
use Rattle.std.specs.List.{AllByRecursion, list_any}
use Rattle.playlist_model.specs.LookBack.{or_earlier}
use Rattle.pod_store.specs.Pods.{Pod}
use Rattle.pod_store.specs.Marks.{Mark, Marked, newest_mark}
use Rattle.pod_store.specs.Store.{Entry, Store, with_entries, has_id, pod_of, pod_for, put, without_pod, names_used, count_with, has_own, is_used, copied_last, with_copy, with_copies, is_one_of, is_held, kept_in_use}
use Rattle.spec_words.specs.Outcomes.{refuse_if}
use Rattle.pod_store.specs.Outcome.{fault_at, nowhere}
use Rattle.pod_store.specs.declared.fault.DecisionFault.{DecisionFault}
use Rattle.pod_store.specs.declared.Decisions.{Decisions}
use Rattle.pod_store.specs.declared.Decisions.TheVariants.{Breaks, Withdraw, Fallback, NoFallback}
use Rattle.pod_store.specs.declared.fault.DecisionKind.TheVariants.{Used, Full, Unknown}
use Rattle.channel_spec.specs.Marking.{Moment, last_entered, continued, is_inside, entered, mark_of}
use Rattle.channel_spec.specs.Sound.{AllPods}
use Rattle.channel_spec.proofs.Entries.{IsEntered, entered_is}
use Rattle.channel_spec.specs.Live.{store_by_outcome, decide}

pub filter_step : {A : Type 0} (P : A → Type 0) (x : A) (xs : List A) (b : Bool) → P x → AllByRecursion P xs → AllByRecursion P (cond b (x ∷ xs) xs)
filter_step P x xs true p h = (p, h)
filter_step P x xs false p h = h

pub all_filter : {A : Type 0} (P : A → Type 0) (test : A → Bool) (xs : List A) → AllByRecursion P xs → AllByRecursion P (filter test xs)
all_filter P test [] h = tt
all_filter P test (x ∷ xs) h = filter_step P x (filter test xs) (test x) h.0 (all_filter P test xs h.1)

module _ (Q : Pod → Type 0) where
  abbrev Entries : List Entry → Type 0
  Entries store = AllByRecursion (λ (e : Entry). Q e.pod) store

  abbrev OfPod : Option Pod → Type 0
  OfPod None = Unit {0}
  OfPod (Some pod) = Q pod

  -- of each pod that a break has of its own, and of the fallback
  pub record Pods (store : Store) : Type 0 where
    pub entries : Entries store.entries
    pub fallback : OfPod store.fallback

  abbrev pub OfMark : Option Mark → Type 0
  OfMark None = Unit {0}
  OfMark (Some f) = Q f.pod

  -- ---- the store

  put_step : (d : List ℕ × Pod) (e : Entry) (store : List Entry) → Q d.1 → Entries (e ∷ store) → Entries (put store d)
      → (b : Bool) → Entries (cond b (record { id = e.id; pod = d.1; used = false; copied = false } ∷ store) (e ∷ put store d))
  put_step d e store p h k true = (p, h.1)
  put_step d e store p h k false = (h.0, k)

  put_pod : (d : List ℕ × Pod) (store : List Entry) → Q d.1 → Entries store → Entries (put store d)
  put_pod d [] p h = (p, tt)
  put_pod d (e ∷ store) p h = put_step d e store p h (put_pod d store p h.1) (bytes_eq d.0 e.id)

  put_pods : (ds : List (List ℕ × Pod)) (store : List Entry) → AllByRecursion (λ (d : List ℕ × Pod). Q d.1) ds → Entries store → Entries (fold put store ds)
  put_pods [] store p h = h
  put_pods (d ∷ ds) store p h = put_pods ds (put store d) p.1 (put_pod d store p.0 h)

  without_step : (e : Entry) (store more : List Entry) → Entries (e ∷ store) → Entries more → (b : Bool) → Entries (cond b store (e ∷ more))
  without_step e store more h k true = h.1
  without_step e store more h k false = (h.0, k)

  without_pods : (id : List ℕ) (store : List Entry) → Entries store → Entries (without_pod id store)
  without_pods id [] h = tt
  without_pods id (e ∷ store) h = without_step e store (without_pod id store) h (without_pods id store h.1) (has_id id e)

  either_store : (a b : Bool) (f g : DecisionFault) (x y : Store) → Pods x → Pods y → Pods (store_by_outcome x (refuse_if a f (refuse_if b g (Ok y))))
  either_store true b f g x y h k = h
  either_store false true f g x y h k = h
  either_store false false f g x y h k = k

  pub decide_pods : (ds : Decisions) (store : Store) → AllPods Q ds → Pods store → Pods (decide ds store)
  decide_pods (Breaks ds) store p h =
      either_store (list_any (names_used store) ds) (nat_lt 256 (count_with store ds)) (fault_at nowhere Used) (fault_at nowhere Full) store (with_entries store (fold put store.entries ds)) h
      (record { entries = put_pods ds store.entries p h.entries; fallback = h.fallback })
  decide_pods (Withdraw id) store p h =
      either_store (not (has_own store id)) (is_used store id) (fault_at nowhere Unknown) (fault_at nowhere Used) store (with_entries store (without_pod id store.entries)) h
      (record { entries = without_pods id store.entries h.entries; fallback = h.fallback })
  decide_pods (Fallback pod) store p h = record { entries = h.entries; fallback = p }
  decide_pods NoFallback store p h = record { entries = h.entries; fallback = tt }

  last_pod : (store : List Entry) (x : Entry) → Entries store → Q x.pod → Entries (store ++ (x ∷ []))
  last_pod [] x h p = (p, tt)
  last_pod (e ∷ store) x h p = (h.0, last_pod store x h.1 p)

  copy_pod : (id : List ℕ) (store : List Entry) (pod : Option Pod) → Entries store → OfPod pod → Entries (copied_last store id pod)
  copy_pod id store None h p = h
  copy_pod id store (Some pod) h p = last_pod store (record { id = id; pod = pod; used = true; copied = true }) h p

  copied_pods : (store : Store) (id : List ℕ) → Pods store → Pods (with_copy store id)
  copied_pods store id h = by (has_own store id)
    where
      by : (b : Bool) → Pods (cond b store (with_entries store (copied_last store.entries id store.fallback)))
      by true = h
      by false = record { entries = copy_pod id store.entries store.fallback h.entries h.fallback; fallback = h.fallback }

  copies_pods : (store : Store) (ids : List (List ℕ)) → Pods store → Pods (with_copies store ids)
  copies_pods store [] h = h
  copies_pods store (id ∷ ids) h = copies_pods (with_copy store id) ids (copied_pods store id h)

  used_pods : (used : List ℕ → Bool) (store : List Entry) → Entries store → Entries (map (λ (e : Entry). record e { used = used e.id }) store)
  used_pods used [] h = tt
  used_pods used (e ∷ store) h = (h.0, used_pods used store h.1)

  pub kept_pods : (ids : List (List ℕ)) (store : Store) → Pods store → Pods (kept_in_use ids store)
  kept_pods ids store h =
      let copied = with_copies store ids in
      record {
        entries = used_pods (is_one_of ids) (filter (is_held ids) copied.entries) (all_filter (λ (e : Entry). Q e.pod) (is_held ids) copied.entries (copies_pods store ids h).entries);
        fallback = h.fallback;
      }

  -- ---- marks

  continued_of : (m : Moment) (instant : Option ℤ) (mark : Option Mark) → OfMark mark → OfMark (continued m instant mark)
  continued_of m instant None h = tt
  continued_of m instant (Some f) h = step (is_inside m instant f)
    where
      step : (b : Bool) → OfMark (cond b (Some f) None)
      step true = h
      step false = tt

  found_step : (e : Entry) (rest : Option Entry) → Q e.pod → OfPod (option_map pod_of rest) → (b : Bool) → OfPod (option_map pod_of (cond b (Some e) rest))
  found_step e rest h k true = h
  found_step e rest h k false = k

  found_in : (id : List ℕ) (store : List Entry) → Entries store → OfPod (option_map pod_of (find (has_id id) store))
  found_in id [] h = tt
  found_in id (e ∷ store) h = found_step e (find (has_id id) store) h.0 (found_in id store h.1) (has_id id e)

  either_pod : (a b : Option Pod) → OfPod a → OfPod b → OfPod (or_earlier a b)
  either_pod None b h k = k
  either_pod (Some pod) b h k = h

  found : (id : List ℕ) (store : Store) → Pods store → OfPod (pod_for store id)
  found id store h = either_pod (option_map pod_of (find (has_id id) store.entries)) store.fallback (found_in id store.entries h.entries) h.fallback

  or_of : (a b : Option Mark) → OfMark a → OfMark b → OfMark (or_earlier a b)
  or_of None b f g = g
  or_of (Some x) b f g = f

  entry_of : (m : Moment) (last : Option (List ℕ)) (o : Option Mark) → Pods m.store → IsEntered m last o → OfMark o
  unfolding IsEntered
  entry_of m last None h k = tt
  entry_of m last (Some f) h k = subst OfPod k.decided (found f.id m.store h)

  entered_of : (m : Moment) (instant : Option ℤ) (last : Option (List ℕ)) → Pods m.store → OfMark (entered m instant last)
  entered_of m instant last h = entry_of m last (entered m instant last) h (entered_is m instant last)

  pub marks_of : (m : Moment) (before : List Marked) (instant : Option ℤ) → Pods m.store → OfMark (newest_mark before) → OfMark (mark_of m before instant)
  marks_of m before instant h g =
      or_of (continued m instant (newest_mark before)) (entered m instant (last_entered before))
      (continued_of m instant (newest_mark before) g) (entered_of m instant (last_entered before) h)
