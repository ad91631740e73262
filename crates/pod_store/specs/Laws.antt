-- What holds of pods that keep the rules, and of the store, whatever was called.
use Rattle.std.specs.Prelude.{◌≡◌, ℕ, ◌≤◌, Bool, true, not, ◌&&◌, List, [], ◌∷◌, length, filter, fold, Option, Some, None, Ok, Err, bytes_eq, if◌then◌else◌}
use Rattle.std.specs.List.{list_any, list_all}
use Rattle.playlist_model.specs.LookBack.{or_earlier}
use Rattle.pod_store.specs.Limits.{most_breaks}
use Rattle.pod_store.specs.Pods.{PodSegment, Ad, Pod, Decision}
use Rattle.writable.specs.Fitting.{if_some, uri_fits, byte_range_fits, duration_fits, effective_keys_fit, init_section_fits}
use Rattle.pod_store.specs.declared.Decisions.{Decisions}
use Rattle.pod_store.specs.declared.Decisions.TheVariants.{Breaks, Withdraw, Fallback, NoFallback}
use Rattle.pod_store.specs.Outcome.{DecisionOutcome}
use Rattle.pod_store.specs.Rules.{ads_keep}
use Rattle.pod_store.specs.Store.{Entry, Store, nothing_decided, has_id, is_named, entry_for, own_pod, is_used, with_all, withdrawn, decided, is_one_of, held_in_use, kept_in_use, adopted, with_entries}

-- ---- calls

-- what a channel asks of its store: it takes decisions, withdrawals among them, and at each refresh it says which breaks are
-- in use
pub data Call : Type 0 where
  decide : Decisions → Call
  keep_in_use : List (List ℕ) → Call

-- a refused call leaves the store as it was
abbrev pub accepted : Store → DecisionOutcome Store → Store
accepted store (Ok new) = new
accepted store (Err e) = store

abbrev pub after_call : Call → Store → Store
after_call (decide decisions) store = accepted store (decided store decisions)
after_call (keep_in_use ids) store = kept_in_use ids store

-- the store after these calls, the newest first
abbrev pub after_calls : List Call → Store
after_calls [] = nothing_decided
after_calls (call ∷ earlier) = after_call call (after_calls earlier)

-- ---- IDs and the count

-- no ID comes twice
abbrev pub are_distinct : List Entry → Bool
are_distinct [] = true
are_distinct (e ∷ later) = not (list_any (has_id e.id) later) && are_distinct later

-- after any calls no break stands twice, and only so many have pods that decisions gave them; each of the others keeps a copy of
-- the fallback
abbrev pub StaysSmall : Type 0
StaysSmall = (calls : List Call) → (are_distinct (after_calls calls).entries ≡ true) × (length (filter is_named (after_calls calls).entries) ≤ most_breaks)

-- ---- used pods

-- neither decisions, a fallback among them, nor a withdrawal change what stands of a used break
abbrev pub UsedPodsStay : Type 0
UsedPodsStay =
    (store : Store) (id : List ℕ) → is_used store id ≡ true → (decisions : Decisions)
    → entry_for (after_call (decide decisions) store) id ≡ entry_for store id

-- ---- what a break has

-- the pod that the last of these decisions on the break gives it
abbrev pub pod_in : List ℕ → List Decision → Option Pod
pod_in id [] = None
pod_in id (d ∷ later) = or_earlier (pod_in id later) (if bytes_eq id d.0 then Some d.1 else None)

-- what a break has that has what stood before, if these decisions are taken
abbrev pub pod_given : List ℕ → List Decision → Option Pod → DecisionOutcome Store → Option Pod
pod_given id decisions before (Ok new) = or_earlier (pod_in id decisions) before
pod_given id decisions before (Err e) = before

-- the same if this break's pod is taken away
abbrev pub pod_left : Bool → Option Pod → DecisionOutcome Store → Option Pod
pod_left is_this before (Ok new) = if is_this then None else before
pod_left is_this before (Err e) = before

abbrev pub pod_after : List ℕ → Call → Store → Option Pod → Option Pod
pod_after id (decide (Breaks decisions)) store before = pod_given id decisions before (with_all store decisions)
pod_after id (decide (Withdraw other)) store before = pod_left (bytes_eq id other) before (withdrawn store other)
pod_after id (decide (Fallback pod)) store before = before
pod_after id (decide NoFallback) store before = before
pod_after id (keep_in_use ids) store before = if is_one_of ids id then or_earlier before store.fallback else (if is_used store id then None else before)

-- the pod of its own that the calls gave the break last, and that none took away since
abbrev pub pod_by : List ℕ → List Call → Option Pod
pod_by id [] = None
pod_by id (call ∷ earlier) = pod_after id call (after_calls earlier) (pod_by id earlier)

-- after any calls each break has the pod that the last decision on it gave it, or else the fallback that there was when it
-- came into use, if none took it away since: a pod goes with its withdrawal, or if its break is in use no more
abbrev pub LastPodStands : Type 0
LastPodStands = (calls : List Call) (id : List ℕ) → own_pod (after_calls calls) id ≡ pod_by id calls

-- ---- adopting

-- to say which breaks are in use comes to adopting each of them, after which the other used ones go
abbrev pub KeepingIsAdopting : Type 0
KeepingIsAdopting = (store : Store) (ids : List (List ℕ)) → kept_in_use ids store ≡ with_entries store (held_in_use ids (fold adopted store ids).entries)

-- ---- writing

abbrev pub segment_can_be_written : PodSegment → Bool
segment_can_be_written s = uri_fits s.uri && if_some byte_range_fits s.byte_range && duration_fits s.duration

-- its segments, and its keys and initialisation section as those of a segment
abbrev pub ad_can_be_written : Ad → Bool
ad_can_be_written ad = effective_keys_fit ad.keys && if_some init_section_fits ad.init_section && list_all segment_can_be_written ad.segments

-- the ads of each pod can be written, with keys and initialisation sections or without
abbrev pub PodsCanBeWritten : Type 0
PodsCanBeWritten = (ads : List Ad) → ads_keep ads ≡ true → list_all ad_can_be_written ads ≡ true
