-- The store of decided breaks, with a fallback for those that have no pod of their own.
use Rattle.std.specs.Prelude.{◌≡◌, ℕ, ◌+◌, Bool, true, false, not, ◌&&◌, ◌||◌, ◌==◌, List, [], ◌∷◌, ◌++◌, map, filter, fold, find, length, nat_lt, Option, Some, None, option_map, is_some, is_none, Result, Ok, Err, MatchResult, bytes_eq, if◌then◌else◌}
use Rattle.std.specs.List.{list_any}
use Rattle.playlist_model.specs.LookBack.{or_earlier}
use Rattle.pod_store.specs.Limits.{most_breaks}
use Rattle.pod_store.specs.Pods.{Pod, Decision, pod_fits}
use Rattle.pod_store.specs.declared.fault.DecisionFault.{DecisionFault}
use Rattle.pod_store.specs.declared.fault.DecisionKind.TheVariants.{Used, Full, Unknown}
use Rattle.pod_store.specs.declared.Decisions.{Decisions}
use Rattle.pod_store.specs.declared.Decisions.TheVariants.{Breaks, Withdraw, Fallback, NoFallback}
use Rattle.spec_words.specs.Outcomes.{refuse_if}
use Rattle.pod_store.specs.Outcome.{DecisionOutcome, nowhere, fault_at, RefusesByDecisionFault}

-- a break with its pod: one that a decision gave it, or a copy of the fallback that it was entered with; and whether the
-- break is used
pub record Entry : Type 0 where
  pub id : List ℕ
  pub pod : Pod
  pub used : Bool
  pub copied : Bool

-- the breaks in the order in which they got their pods, and the pod of those that have none of their own
pub record Store : Type 0 where
  pub entries : List Entry
  pub fallback : Option Pod

-- no break has a pod
abbrev pub nothing_decided : Store
nothing_decided = record { entries = []; fallback = None }

abbrev pub with_entries : Store → List Entry → Store
with_entries store entries = record { entries = entries; fallback = store.fallback }

abbrev pub has_id : List ℕ → Entry → Bool
has_id id entry = bytes_eq id entry.id

abbrev pub entry_for : Store → List ℕ → Option Entry
entry_for store id = find (has_id id) store.entries

abbrev pub pod_of : Entry → Pod
pod_of entry = entry.pod

-- the pod that the break has of its own: the one that a decision gave it, or a copy
abbrev pub own_pod : Store → List ℕ → Option Pod
own_pod store id = option_map pod_of (entry_for store id)

-- the pod that the break is filled with: its own, else the fallback
abbrev pub pod_for : Store → List ℕ → Option Pod
pod_for store id = or_earlier (own_pod store id) store.fallback

-- no break has a pod that it can be filled with
abbrev pub has_no_pod : Store → Bool
has_no_pod store = length store.entries == 0 && is_none store.fallback

abbrev pub fits_of : ℕ → Bool → Option Pod → Bool
fits_of target with_init_sections None = false
fits_of target with_init_sections (Some pod) = pod_fits target with_init_sections pod

-- the break has a pod that it can be filled with, and that fits
abbrev pub has_fitting_pod : Store → List ℕ → ℕ → Bool → Bool
has_fitting_pod store id target with_init_sections = fits_of target with_init_sections (pod_for store id)

abbrev pub is_used_entry : Option Entry → Bool
is_used_entry None = false
is_used_entry (Some e) = e.used

abbrev pub is_used : Store → List ℕ → Bool
is_used store id = is_used_entry (entry_for store id)

-- ---- what becomes of it

-- a break that is there gets the pod in its place, another one stands last
abbrev pub put : List Entry → Decision → List Entry
put [] d = record { id = d.0; pod = d.1; used = false; copied = false } ∷ []
put (e ∷ later) d = if has_id d.0 e then record { id = e.id; pod = d.1; used = false; copied = false } ∷ later else e ∷ put later d

abbrev pub without_pod : List ℕ → List Entry → List Entry
without_pod id [] = []
without_pod id (e ∷ later) = if has_id id e then later else e ∷ without_pod id later

abbrev pub marked_used : List ℕ → List Entry → List Entry
marked_used id [] = []
marked_used id (e ∷ later) = if has_id id e then record e { used = true } ∷ later else e ∷ marked_used id later

abbrev pub with_used : List ℕ → Store → Store
with_used id store = with_entries store (marked_used id store.entries)

-- the break has a pod of its own
abbrev pub has_own : Store → List ℕ → Bool
has_own store id = is_some (entry_for store id)

-- a decision gave the break its pod
abbrev pub is_named : Entry → Bool
is_named e = not e.copied

abbrev pub is_named_if_any : Option Entry → Bool
is_named_if_any None = false
is_named_if_any (Some e) = is_named e

abbrev pub is_new_decision : Store → Decision → Bool
is_new_decision store d = not (is_named_if_any (entry_for store d.0))

-- the breaks that decisions would have given pods, with those of a file; copies aren't counted
abbrev pub count_with : Store → List Decision → ℕ
count_with store decisions = length (filter (is_new_decision store) decisions) + length (filter is_named store.entries)

abbrev pub names_used : Store → Decision → Bool
names_used store d = is_used store d.0

abbrev pub with_all : Store → List Decision → DecisionOutcome Store
with_all store decisions =
    refuse_if (list_any (names_used store) decisions) (fault_at nowhere Used)
    (refuse_if (nat_lt most_breaks (count_with store decisions)) (fault_at nowhere Full)
    (Ok (with_entries store (fold put store.entries decisions))))

abbrev pub withdrawn : Store → List ℕ → DecisionOutcome Store
withdrawn store id =
    refuse_if (not (has_own store id)) (fault_at nowhere Unknown)
    (refuse_if (is_used store id) (fault_at nowhere Used) (Ok (with_entries store (without_pod id store.entries))))

-- the store after decisions, or why they are refused; a fallback takes the place of the one before
abbrev pub decided : Store → Decisions → DecisionOutcome Store
decided store (Breaks decisions) = with_all store decisions
decided store (Withdraw id) = withdrawn store id
decided store (Fallback pod) = Ok (record { entries = store.entries; fallback = Some pod })
decided store NoFallback = Ok (record { entries = store.entries; fallback = None })

-- ---- copies

abbrev pub copied_last : List Entry → List ℕ → Option Pod → List Entry
copied_last entries id None = entries
copied_last entries id (Some pod) = entries ++ (record { id = id; pod = pod; used = true; copied = true } ∷ [])

-- a break that has no pod of its own keeps a copy of the fallback, and is used
abbrev pub with_copy : Store → List ℕ → Store
with_copy store id = if has_own store id then store else with_entries store (copied_last store.entries id store.fallback)

abbrev pub with_copies : Store → List (List ℕ) → Store
with_copies store ids = fold with_copy store ids

-- a break is used with the pod that it is filled with
abbrev pub adopted : Store → List ℕ → Store
adopted store id = if has_own store id then with_used id store else with_copy store id

-- ---- the breaks in use

-- the break is one of these
abbrev pub is_one_of : List (List ℕ) → List ℕ → Bool
is_one_of ids id = list_any (bytes_eq id) ids

abbrev pub is_held : List (List ℕ) → Entry → Bool
is_held ids e = not e.used || is_one_of ids e.id

-- of the breaks that have pods of their own these are in use: a used one that is none of them goes, and of the others these
-- are used
abbrev pub held_in_use : List (List ℕ) → List Entry → List Entry
held_in_use ids entries = map (λ (e : Entry). record e { used = is_one_of ids e.id }) (filter (is_held ids) entries)

-- these breaks are in use: each of them that has no pod of its own keeps a copy of the fallback, and no other break is used
abbrev pub kept_in_use : List (List ℕ) → Store → Store
kept_in_use ids store = with_entries store (held_in_use ids (with_copies store ids).entries)

-- the store is the one owed; or the fault is, a failed allocation apart, and the store is as it was
abbrev pub Changes : Store → Store → Result (Unit {0}) DecisionFault → DecisionOutcome Store → Type 0
Changes old new result outcome = MatchResult result (λ _. outcome ≡ Ok new) (λ e. (new ≡ old) × RefusesByDecisionFault e outcome)

-- the same of a call that takes no memory: the fault is the one owed
abbrev pub ChangesExactly : Store → Store → Result (Unit {0}) DecisionFault → DecisionOutcome Store → Type 0
ChangesExactly old new result outcome = MatchResult result (λ _. outcome ≡ Ok new) (λ e. (new ≡ old) × (outcome ≡ Err e))
