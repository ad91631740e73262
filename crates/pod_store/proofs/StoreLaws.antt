-- The laws of the store.
use Rattle.std.proofs.lemmas.Grind.{common_steps}
use Rattle.std.proofs.Common.{◌≡◌, ℕ, zero, suc, ◌+◌, ◌≤◌, Bool, true, false, cond, not, ◌||◌, List, [], ◌∷◌, ◌++◌, length, map, filter, refl, ap, sym, ◌∙◌, arith, Some, None}
use Rattle.std.specs.Prelude.{Option, Ok, fold, is_some, bytes_eq}
use Rattle.std.specs.List.{list_any, list_all}
use Rattle.std.proofs.lemmas.Bool.{and_parts, and_from, or_parts}
use Rattle.std.proofs.lemmas.Slice.Eq.{bytes_eq-Decides}
use Rattle.playlist_model.specs.LookBack.{or_earlier}
use Rattle.pod_store.specs.Limits.{most_breaks}
use Rattle.pod_store.specs.Pods.{Pod, Decision}
use Rattle.pod_store.specs.declared.Decisions.TheVariants.{Breaks, Withdraw, Fallback, NoFallback}
use Rattle.pod_store.specs.declared.fault.DecisionKind.TheVariants.{Used, Unknown}
use Rattle.spec_words.specs.Outcomes.{refuse_if}
use Rattle.pod_store.specs.Outcome.{fault_at, nowhere}
use Rattle.pod_store.specs.Store.{Entry, Store, with_entries, has_id, entry_for, own_pod, pod_for, is_used, is_used_entry, has_own, is_named, is_named_if_any, names_used, put, without_pod, marked_used, with_used, with_all, withdrawn, copied_last, with_copy, with_copies, adopted, is_one_of, is_held, held_in_use, kept_in_use}
use Rattle.pod_store.proofs.Copies.{none_there, entry_in, pod_if, pod_at, copies_pod, other_stands, entry_stays}
use Rattle.pod_store.specs.Laws.{Call, decide, keep_in_use, accepted, after_call, after_calls, are_distinct, StaysSmall, UsedPodsStay, LastPodStands, KeepingIsAdopting, pod_in, pod_after}

-- ---- tests

same_id : (id : List ℕ) → bytes_eq id id ≡ true
same_id id = (bytes_eq-Decides id id).1 refl

other_way : (a b : List ℕ) → bytes_eq a b ≡ false → bytes_eq b a ≡ false
other_way a b h = grind (arith, bytes_eq-Decides)

or_false : (b : Bool) → (b || false) ≡ b
or_false true = refl
or_false false = refl

or_grouped : (a b c : Bool) → (a || (b || c)) ≡ ((a || b) || c)
or_grouped true b c = refl
or_grouped false b c = refl

not_true : (b : Bool) → not b ≡ true → b ≡ false
not_true true h = absurd (cc)
not_true false h = refl

-- ---- IDs

abbrev stands : List ℕ → List Entry → Bool
stands id store = list_any (has_id id) store

found_stands : (id : List ℕ) (store : List Entry) → is_some (entry_in store id) ≡ stands id store
found_stands id [] = refl
found_stands id (e ∷ store) = grind (arith, found_stands id store)

stands_put : (id : List ℕ) (store : List Entry) (d : Decision) → stands id (put store d) ≡ (stands id store || bytes_eq id d.0)
stands_put id [] d = or_false _
stands_put id (e ∷ store) d = grind (arith, stands_put id store d, bytes_eq-Decides)

distinct_put : (store : List Entry) (d : Decision) → are_distinct store ≡ true → are_distinct (put store d) ≡ true
distinct_put [] d h = refl
distinct_put (e ∷ store) d h = grind (arith, distinct_put store d, not_true, other_way, stands_put)

distinct_all : (ds : List Decision) (store : List Entry) → are_distinct store ≡ true → are_distinct (fold put store ds) ≡ true
distinct_all [] store h = h
distinct_all (d ∷ ds) store h = distinct_all ds (put store d) (distinct_put store d h)

none_without : (p : Entry → Bool) (id : List ℕ) (store : List Entry) → list_any p store ≡ false → list_any p (without_pod id store) ≡ false
none_without p id [] h = refl
none_without p id (e ∷ store) h = grind (arith, none_without p id store)

distinct_without : (id : List ℕ) (store : List Entry) → are_distinct store ≡ true → are_distinct (without_pod id store) ≡ true
distinct_without id [] h = refl
distinct_without id (e ∷ store) h = grind (arith, distinct_without id store, none_without)

-- a break that stands last
stands_last : (id : List ℕ) (store : List Entry) (x : Entry) → stands id (store ++ (x ∷ [])) ≡ (stands id store || bytes_eq id x.id)
stands_last id [] x = or_false _
stands_last id (e ∷ store) x = grind (arith, stands_last id store x)

distinct_last : (store : List Entry) (x : Entry) → are_distinct store ≡ true → stands x.id store ≡ false → are_distinct (store ++ (x ∷ [])) ≡ true
distinct_last [] x h n = refl
distinct_last (e ∷ store) x h n =
    let p = and_parts _ _ h in
    let q = or_parts _ _ n in
    and_from _ _ (ap not (stands_last e.id store x ∙ (ap (λ b. b || bytes_eq e.id x.id) (not_true _ p.0) ∙ other_way x.id e.id q.0))) (distinct_last store x p.1 q.1)

-- ---- counts

abbrev named_in : List ℕ → List Entry → Bool
named_in id store = is_named_if_any (entry_in store id)

abbrev new_in : List Entry → Decision → Bool
new_in store d = not (named_in d.0 store)

abbrev count : List Entry → ℕ
count store = length (filter is_named store)

abbrev plus : Bool → ℕ → ℕ
plus true n = suc n
plus false n = n

counted : (e : Entry) (store : List Entry) → count (e ∷ store) ≡ plus (is_named e) (count store)
counted e store = grind arith

no_more : (b : Bool) (n : ℕ) → n ≤ plus b n
no_more true n = omega arith
no_more false n = omega arith

as_many : (b : Bool) (m n : ℕ) → m ≤ n → plus b m ≤ plus b n
as_many true m n h = omega (arith, h)
as_many false m n h = h

count_without : (id : List ℕ) (store : List Entry) → count (without_pod id store) ≤ count store
count_without id [] = omega arith
count_without id (e ∷ store) = grind (arith, count_without id store)

count_last : (store : List Entry) (x : Entry) → is_named x ≡ false → count (store ++ (x ∷ [])) ≡ count store
count_last [] x h = counted x [] ∙ ap (λ b. plus b zero) h
count_last (e ∷ store) x h = grind (arith, count_last store x h)

count_put : (store : List Entry) (d : Decision) → count (put store d) ≡ cond (named_in d.0 store) (count store) (suc (count store))
count_put [] d = refl
count_put (e ∷ store) d = grind (arith, count_put store d)

or_true : (b : Bool) → (b || true) ≡ true
or_true true = refl
or_true false = refl

named_put : (id : List ℕ) (store : List Entry) (d : Decision) → named_in id (put store d) ≡ (named_in id store || bytes_eq id d.0)
named_put id [] d = grind arith
named_put id (e ∷ store) d = grind (arith, named_put id store d, bytes_eq-Decides)

-- what is new with a break more in the store is new without it
still_new : (store : List Entry) (d x : Decision) → new_in (put store d) x ≡ true → new_in store x ≡ true
still_new store d x h = ap not (or_parts _ _ (sym (named_put x.0 store d) ∙ not_true _ h)).0

fewer : (p q : Decision → Bool) → ((x : Decision) → p x ≡ true → q x ≡ true) → (xs : List Decision) → length (filter p xs) ≤ length (filter q xs)
fewer p q each [] = omega arith
fewer p q each (x ∷ xs) = grind (arith, fewer p q each xs)

more_put : (store : List Entry) (d : Decision) (n : ℕ) → n + count (put store d) ≤ length (cond (new_in store d) (d ∷ []) []) + n + count store
more_put store d n = grind (arith, count_put)

filter_split : (p : Decision → Bool) (d : Decision) (ds : List Decision) → length (filter p (d ∷ ds)) ≡ length (cond (p d) (d ∷ []) []) + length (filter p ds)
filter_split p d ds = grind arith

count_all : (ds : List Decision) (store : List Entry) → count (fold put store ds) ≤ length (filter (new_in store) ds) + count store
count_all [] store = omega arith
count_all (d ∷ ds) store =
    joined (count (fold put (put store d) ds)) (length (filter (new_in (put store d)) ds)) (length (filter (new_in store) ds)) (count (put store d))
    (length (filter (new_in store) (d ∷ ds))) (length (cond (new_in store d) (d ∷ []) [])) (count store)
    (count_all ds (put store d)) (fewer (new_in (put store d)) (new_in store) (still_new store d) ds) (filter_split (new_in store) d ds) (more_put store d (length (filter (new_in store) ds)))
  where
    joined : (t a b p f c n : ℕ) → t ≤ a + p → a ≤ b → f ≡ c + b → b + p ≤ c + b + n → t ≤ f + n
    joined t a b p f c n g h i j = omega (arith, g, h, i, j)

-- ---- after any calls

abbrev IsSmall : List Entry → Type 0
IsSmall store = (are_distinct store ≡ true) × (count store ≤ most_breaks)

small_all : (ds : List Decision) (store : Store) → IsSmall store.entries → IsSmall (accepted store (with_all store ds)).entries
small_all ds store h = grind (arith, count_all, distinct_all)

small_without : (id : List ℕ) (store : List Entry) → IsSmall store → IsSmall (without_pod id store)
small_without id store h = grind (arith, count_without, distinct_without)

small_withdrawn : (id : List ℕ) (store : Store) → IsSmall store.entries → IsSmall (accepted store (withdrawn store id)).entries
small_withdrawn id store h = by (not (has_own store id)) (is_used store id)
  where
    by : (unknown used : Bool)
        → IsSmall (accepted store (refuse_if unknown (fault_at nowhere Unknown) (refuse_if used (fault_at nowhere Used) (Ok (with_entries store (without_pod id store.entries)))))).entries
    by true used = h
    by false true = h
    by false false = small_without id store.entries h

small_copied : (id : List ℕ) (store : List Entry) (pod : Option Pod) → stands id store ≡ false → IsSmall store → IsSmall (copied_last store id pod)
small_copied id store pod n h = grind (arith, count_last, distinct_last)

-- copies keep it small
small_copy : (id : List ℕ) (store : Store) → IsSmall store.entries → IsSmall (with_copy store id).entries
small_copy id store h = grind (arith, common_steps, found_stands, small_copied)

small_copies : (ids : List (List ℕ)) (store : Store) → IsSmall store.entries → IsSmall (with_copies store ids).entries
small_copies [] store h = h
small_copies (x ∷ ids) store h = small_copies ids (with_copy store x) (small_copy x store h)

distinct_copies : (ids : List (List ℕ)) (store : Store) → are_distinct store.entries ≡ true → are_distinct (with_copies store ids).entries ≡ true
distinct_copies [] store h = h
distinct_copies (x ∷ ids) store h = distinct_copies ids (with_copy store x) (by (has_own store x) refl)
  where
    by : (b : Bool) → has_own store x ≡ b → are_distinct (cond b store (with_entries store (copied_last store.entries x store.fallback))).entries ≡ true
    by true e = h
    by false e = last (sym (found_stands x store.entries) ∙ e) store.fallback
      where
        last : stands x store.entries ≡ false → (pod : Option Pod) → are_distinct (copied_last store.entries x pod) ≡ true
        last n None = h
        last n (Some pod) = distinct_last store.entries (record { id = x; pod = pod; used = true; copied = true }) h n

-- and so does what is dropped
abbrev now_used : List (List ℕ) → Entry → Entry
now_used ids e = record e { used = is_one_of ids e.id }

stands_held : (ids : List (List ℕ)) (id : List ℕ) (store : List Entry) → stands id store ≡ false → stands id (held_in_use ids store) ≡ false
stands_held ids id [] h = refl
stands_held ids id (e ∷ store) h = grind (arith, stands_held ids id store)

distinct_held : (ids : List (List ℕ)) (store : List Entry) → are_distinct store ≡ true → are_distinct (held_in_use ids store) ≡ true
distinct_held ids [] h = refl
distinct_held ids (e ∷ store) h = grind (arith, distinct_held ids store, stands_held)

count_held : (ids : List (List ℕ)) (store : List Entry) → count (held_in_use ids store) ≤ count store
count_held ids [] = omega arith
count_held ids (e ∷ store) = grind (arith, count_held ids store)

small_held : (ids : List (List ℕ)) (store : List Entry) → IsSmall store → IsSmall (held_in_use ids store)
small_held ids store h = (distinct_held ids store h.0, omega (arith, count_held ids store, h.1))

small_after : (call : Call) (store : Store) → IsSmall store.entries → IsSmall (after_call call store).entries
small_after (decide (Breaks ds)) store h = small_all ds store h
small_after (decide (Withdraw id)) store h = small_withdrawn id store h
small_after (decide (Fallback pod)) store h = h
small_after (decide NoFallback) store h = h
small_after (keep_in_use ids) store h = small_held ids (with_copies store ids).entries (small_copies ids store h)

pub stays_small : StaysSmall
stays_small [] = (refl, omega arith)
stays_small (call ∷ earlier) = small_after call (after_calls earlier) (stays_small earlier)

-- ---- used pods

put_other : (id : List ℕ) (d : Decision) (store : List Entry) → bytes_eq id d.0 ≡ false → entry_in (put store d) id ≡ entry_in store id
put_other id d [] other = grind arith
put_other id d (e ∷ store) other = grind (arith, put_other id d store other, bytes_eq-Decides)

drop_other : (id other : List ℕ) (store : List Entry) → bytes_eq id other ≡ false → entry_in (without_pod other store) id ≡ entry_in store id
drop_other id other [] h = refl
drop_other id other (e ∷ store) h = grind (arith, drop_other id other store h, bytes_eq-Decides)

-- a used break is none of those that are not used
apart : (store : Store) (id other : List ℕ) → is_used store id ≡ true → is_used store other ≡ false → bytes_eq id other ≡ false
apart store id other u n = grind (arith, bytes_eq-Decides)

put_others : (id : List ℕ) (ds : List Decision) (store : List Entry) (first : Store) → is_used first id ≡ true → list_any (names_used first) ds ≡ false → entry_in (fold put store ds) id ≡ entry_in store id
put_others id [] store first u h = refl
put_others id (d ∷ ds) store first u h =
    let p = or_parts _ _ h in
    put_others id ds (put store d) first u p.1 ∙ put_other id d store (apart first id d.0 u p.0)

pub used_pods_stay : UsedPodsStay
used_pods_stay store id u h = grind (arith, put_others, drop_other, apart)

-- ---- what a break has

own_put : (d : Decision) (store : List Entry) → pod_at (put store d) d.0 ≡ Some d.1
own_put d [] = let e = same_id d.0 in rw e refl
own_put d (x ∷ store) = grind (arith, own_put d store)

put_pod : (id : List ℕ) (d : Decision) (store : List Entry) → pod_at (put store d) id ≡ cond (bytes_eq id d.0) (Some d.1) (pod_at store id)
put_pod id d store = grind (arith, bytes_eq-Decides, own_put, put_other)

put_pods : (id : List ℕ) (ds : List Decision) (store : List Entry) → pod_at (fold put store ds) id ≡ or_earlier (pod_in id ds) (pod_at store id)
put_pods id [] store = refl
put_pods id (d ∷ ds) store = grind (arith, put_pods id ds (put store d), put_pod)

-- if no break stands twice, one that is taken away stands no more
own_dropped : (id : List ℕ) (store : List Entry) → are_distinct store ≡ true → entry_in (without_pod id store) id ≡ None
own_dropped id [] h = refl
own_dropped id (e ∷ store) h = by (bytes_eq id e.id) refl (and_parts _ _ h) (own_dropped id store)
  where
    by : (b : Bool) → bytes_eq id e.id ≡ b → (not (stands e.id store) ≡ true) × (are_distinct store ≡ true) → (are_distinct store ≡ true → entry_in (without_pod id store) id ≡ None) → entry_in (cond b store (e ∷ without_pod id store)) id ≡ None
    by true same p rec = none_there _ (found_stands id store ∙ (ap (λ i. stands i store) ((bytes_eq-Decides id e.id).0 same) ∙ not_true _ p.0))
    by false same p rec = ap (λ b. cond b (Some e) (entry_in (without_pod id store) id)) same ∙ rec p.1

dropped : (id other : List ℕ) (store : List Entry) → are_distinct store ≡ true → pod_at (without_pod other store) id ≡ cond (bytes_eq id other) None (pod_at store id)
dropped id other store h = grind (arith, bytes_eq-Decides, drop_other, own_dropped)

-- ---- which breaks are in use

-- of a break's pods only that of one that is used, and that is none of these, goes
held_pod : (ids : List (List ℕ)) (id : List ℕ) (store : List Entry) → are_distinct store ≡ true
    → pod_at (held_in_use ids store) id ≡ cond (is_one_of ids id) (pod_at store id) (cond (is_used_entry (entry_in store id)) None (pod_at store id))
held_pod ids id [] h = grind arith
held_pod ids id (e ∷ store) h = by (bytes_eq id e.id) refl (and_parts _ _ h) (held_pod ids id store)
  where
    found : (b u : Bool) → is_one_of ids id ≡ b → e.used ≡ u → bytes_eq id e.id ≡ true → pod_at (held_in_use ids store) id ≡ None
        → pod_at (map (now_used ids) (cond (is_held ids e) (e ∷ filter (is_held ids) store) (filter (is_held ids) store))) id ≡ cond b (Some e.pod) (cond u None (Some e.pod))
    found b u f g same none =
        let one : is_one_of ids e.id ≡ b = ap (is_one_of ids) (sym ((bytes_eq-Decides id e.id).0 same)) ∙ f in
        ap (λ (k : Bool). pod_at (map (now_used ids) (cond (not k || is_one_of ids e.id) (e ∷ filter (is_held ids) store) (filter (is_held ids) store))) id) g
        ∙ (ap (λ (k : Bool). pod_at (map (now_used ids) (cond (not u || k) (e ∷ filter (is_held ids) store) (filter (is_held ids) store))) id) one ∙ at b u)
      where
        here : pod_at (now_used ids e ∷ held_in_use ids store) id ≡ Some e.pod
        here = ap (λ t. pod_if (cond t (Some (now_used ids e)) (entry_in (held_in_use ids store) id))) same

        at : (b u : Bool) → pod_at (map (now_used ids) (cond (not u || b) (e ∷ filter (is_held ids) store) (filter (is_held ids) store))) id ≡ cond b (Some e.pod) (cond u None (Some e.pod))
        at true true = here
        at true false = here
        at false true = none
        at false false = here

    other : (b : Bool) → bytes_eq id e.id ≡ false → pod_at (map (now_used ids) (cond b (e ∷ filter (is_held ids) store) (filter (is_held ids) store))) id ≡ pod_at (held_in_use ids store) id
    other true apart = ap (λ t. pod_if (cond t (Some (now_used ids e)) (entry_in (held_in_use ids store) id))) apart
    other false apart = refl

    by : (t : Bool) → bytes_eq id e.id ≡ t → (not (stands e.id store) ≡ true) × (are_distinct store ≡ true)
        → (are_distinct store ≡ true → pod_at (held_in_use ids store) id ≡ cond (is_one_of ids id) (pod_at store id) (cond (is_used_entry (entry_in store id)) None (pod_at store id)))
        → pod_at (held_in_use ids (e ∷ store)) id
        ≡ cond (is_one_of ids id) (pod_if (cond t (Some e) (entry_in store id))) (cond (is_used_entry (cond t (Some e) (entry_in store id))) None (pod_if (cond t (Some e) (entry_in store id))))
    by true same p rec =
        let gone : stands id store ≡ false = ap (λ i. stands i store) ((bytes_eq-Decides id e.id).0 same) ∙ not_true _ p.0 in
        let none : entry_in (held_in_use ids store) id ≡ None = none_there _ (found_stands id (held_in_use ids store) ∙ stands_held ids id store gone) in
        found (is_one_of ids id) e.used refl refl same (ap pod_if none)
    by false apart p rec = other (is_held ids e) apart ∙ rec p.1

kept_pod : (ids : List (List ℕ)) (id : List ℕ) (store : Store) → are_distinct (with_copies store ids).entries ≡ true
    → own_pod (kept_in_use ids store) id ≡ cond (is_one_of ids id) (pod_for store id) (cond (is_used store id) None (own_pod store id))
kept_pod ids id store h = grind (arith, copies_pod, held_pod, other_stands)

pub pods_in_use : (ids : List (List ℕ)) (id : List ℕ) (store : Store) → are_distinct store.entries ≡ true
    → own_pod (kept_in_use ids store) id ≡ cond (is_one_of ids id) (pod_for store id) (cond (is_used store id) None (own_pod store id))
pods_in_use ids id store h = kept_pod ids id store (distinct_copies ids store h)

pods_after : (id : List ℕ) (call : Call) (store : Store) → are_distinct store.entries ≡ true → own_pod (after_call call store) id ≡ pod_after id call store (own_pod store id)
pods_after id call store h = grind (arith, dropped, pods_in_use, put_pods)

pub last_pod_stands : LastPodStands
last_pod_stands [] id = refl
last_pod_stands (call ∷ earlier) id = grind (arith, last_pod_stands earlier id, pods_after, stays_small)

-- ---- adopting

stands_used : (other id : List ℕ) (store : List Entry) → stands other (marked_used id store) ≡ stands other store
stands_used other id [] = refl
stands_used other id (e ∷ store) = grind (arith, stands_used other id store)

own_used : (store : Store) (id other : List ℕ) → has_own (with_used id store) other ≡ has_own store other
own_used store id other = grind (arith, found_stands, stands_used)

used_before : (id : List ℕ) (store later : List Entry) → stands id store ≡ true → marked_used id (store ++ later) ≡ marked_used id store ++ later
used_before id [] later h = absurd (cc)
used_before id (e ∷ store) later h = grind (arith, used_before id store later)

-- a break that is marked as used and one that gets a copy
used_copy : (store : Store) (id other : List ℕ) → has_own store id ≡ true → with_copy (with_used id store) other ≡ with_used id (with_copy store other)
used_copy store id other h = grind (arith, found_stands, own_used, used_before)

own_stays_copy : (store : Store) (id other : List ℕ) → has_own store id ≡ true → has_own (with_copy store other) id ≡ true
own_stays_copy store id other h = by (entry_for store id) refl h
  where
    by : (o : Option Entry) → entry_for store id ≡ o → is_some o ≡ true → has_own (with_copy store other) id ≡ true
    by None e k = absurd (cc)
    by (Some e) f k = ap is_some (entry_stays store (other ∷ []) id e f)

used_copies : (store : Store) (id : List ℕ) (ids : List (List ℕ)) → has_own store id ≡ true → with_copies (with_used id store) ids ≡ with_used id (with_copies store ids)
used_copies store id [] h = refl
used_copies store id (x ∷ ids) h = ap (λ (s : Store). with_copies s ids) (used_copy store id x h) ∙ used_copies (with_copy store x) id ids (own_stays_copy store id x h)

-- which of these breaks were marked before makes no difference
held_used : (all : List (List ℕ)) (id : List ℕ) (store : List Entry) → is_one_of all id ≡ true → held_in_use all (marked_used id store) ≡ held_in_use all store
held_used all id [] h = refl
held_used all id (e ∷ store) h = grind (arith, held_used all id store h, bytes_eq-Decides)

adopting : (all ids : List (List ℕ)) (store : Store) → list_all (is_one_of all) ids ≡ true → held_in_use all (with_copies store ids).entries ≡ held_in_use all (fold adopted store ids).entries
adopting all [] store h = refl
adopting all (x ∷ ids) store h = by (has_own store x) refl (and_parts _ _ h) (λ s k. adopting all ids s k)
  where
    by : (b : Bool) → has_own store x ≡ b → (is_one_of all x ≡ true) × (list_all (is_one_of all) ids ≡ true)
        → ((s : Store) → list_all (is_one_of all) ids ≡ true → held_in_use all (with_copies s ids).entries ≡ held_in_use all (fold adopted s ids).entries)
        → held_in_use all (with_copies (cond b store (with_entries store (copied_last store.entries x store.fallback))) ids).entries
        ≡ held_in_use all (fold adopted (cond b (with_used x store) (cond b store (with_entries store (copied_last store.entries x store.fallback)))) ids).entries
    by true own p rec =
        sym (ap (λ (s : Store). held_in_use all s.entries) (used_copies store x ids own) ∙ held_used all x (with_copies store ids).entries p.0)
        ∙ rec (with_used x store) p.1
    by false none p rec = rec (with_entries store (copied_last store.entries x store.fallback)) p.1

each_in : (front ids : List (List ℕ)) → list_all (is_one_of (front ++ ids)) ids ≡ true
each_in front [] = refl
each_in front (x ∷ ids) = grind (arith, common_steps, each_in (front ++ (x ∷ [])) ids, and_from, or_true, same_id)

pub keeping_is_adopting : KeepingIsAdopting
keeping_is_adopting store ids = ap (with_entries store) (adopting ids ids store (each_in [] ids))
