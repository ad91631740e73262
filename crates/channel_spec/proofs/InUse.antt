-- A break is used in the store exactly if it marks a shown segment or was entered last.
use Rattle.std.proofs.Common.{◌≡◌, ℕ, ◌≤◌, Bool, true, false, cond, ◌&&◌, ◌||◌, not, List, [], ◌∷◌, refl, ap, sym, ◌∙◌, arith}
use Rattle.std.proofs.lemmas.Bool.{leb-true}
use Rattle.std.proofs.lemmas.Slice.Eq.{bytes_eq-Decides}
use Rattle.std.specs.Prelude.{Option, Some, None, Ok, fold, is_none, nat_le, nat_lt, bytes_eq, find}
use Rattle.std.specs.List.{AllByRecursion, list_any}
use Rattle.playlist_model.specs.declared.Playlist.{Playlist}
use Rattle.pod_store.specs.Pods.{Pod}
use Rattle.pod_store.specs.Marks.{Mark, Marked}
use Rattle.channel_spec.specs.declared.fault.RefreshFault.{RefreshFault}
use Rattle.pod_store.specs.Store.{Entry, Store, with_entries, with_copies, has_id, has_own, is_used, is_used_entry, put, without_pod, names_used, count_with}
use Rattle.spec_words.specs.Outcomes.{refuse_if}
use Rattle.pod_store.specs.Outcome.{fault_at, nowhere}
use Rattle.pod_store.specs.declared.Decisions.{Decisions}
use Rattle.pod_store.specs.declared.Decisions.TheVariants.{Breaks, Withdraw, Fallback, NoFallback}
use Rattle.pod_store.specs.declared.fault.DecisionKind.TheVariants.{Used, Full, Unknown}
use Rattle.break_finder.specs.Known.{Accepted, is_this_break}
use Rattle.channel_spec.specs.Marking.{last_mark, last_entered, history_after}
use Rattle.channel_spec.specs.Successor.{first_number}
use Rattle.channel_spec.specs.Live.{Event, decided, refreshed, Told, told, happens, refusal, after_refresh, store_by_outcome, decide, moment, start_after, is_mark_of, in_use, breaks_in_use, rest_before, rest_by, rest_id, last_playlist}
use Rattle.channel_spec.proofs.StoreAfter.{entries_after}
use Rattle.channel_spec.proofs.HeldPods.{is_shown, in_use_is}
use Rattle.channel_spec.specs.LiveLaws.{HasPod, ShownHavePods, first_shown, rest_mark, UsedAreInUse}
use Rattle.stitcher.specs.Paced.{PodRest}
use Rattle.channel_spec.proofs.UsedPods.{marks_have_pods}
use Rattle.channel_spec.proofs.EachWindow.{WindowOf, holds}

-- ---- used entries are in use

abbrev InUse : (List ℕ → Bool) → List Entry → Type 0
InUse uses store = AllByRecursion (λ (e : Entry). e.used ≡ true → uses e.id ≡ true) store

put_step : (uses : List ℕ → Bool) (d : List ℕ × Pod) (e : Entry) (store : List Entry) → InUse uses (e ∷ store) → InUse uses (put store d) → (b : Bool)
    → InUse uses (cond b (record { id = e.id; pod = d.1; used = false; copied = false } ∷ store) (e ∷ put store d))
put_step uses d e store h rec true = (λ k. absurd (cc), h.1)
put_step uses d e store h rec false = (h.0, rec)

put_in_use : (uses : List ℕ → Bool) (d : List ℕ × Pod) (store : List Entry) → InUse uses store → InUse uses (put store d)
put_in_use uses d [] h = (λ k. absurd (cc), tt)
put_in_use uses d (e ∷ store) h = put_step uses d e store h (put_in_use uses d store h.1) (has_id d.0 e)

puts_in_use : (uses : List ℕ → Bool) (ds : List (List ℕ × Pod)) (store : List Entry) → InUse uses store → InUse uses (fold put store ds)
puts_in_use uses [] store h = h
puts_in_use uses (d ∷ ds) store h = puts_in_use uses ds (put store d) (put_in_use uses d store h)

without_step : (uses : List ℕ → Bool) (id : List ℕ) (e : Entry) (store : List Entry) → InUse uses (e ∷ store) → InUse uses (without_pod id store) → (b : Bool) → InUse uses (cond b store (e ∷ without_pod id store))
without_step uses id e store h rec true = h.1
without_step uses id e store h rec false = (h.0, rec)

without_in_use : (uses : List ℕ → Bool) (id : List ℕ) (store : List Entry) → InUse uses store → InUse uses (without_pod id store)
without_in_use uses id [] h = tt
without_in_use uses id (e ∷ store) h = without_step uses id e store h (without_in_use uses id store h.1) (has_id id e)

all_step : (uses : List ℕ → Bool) (ds : List (List ℕ × Pod)) (store : Store) (used full : Bool) → InUse uses store.entries
    → InUse uses (store_by_outcome store (refuse_if used (fault_at nowhere Used) (refuse_if full (fault_at nowhere Full) (Ok (with_entries store (fold put store.entries ds)))))).entries
all_step uses ds store true full h = h
all_step uses ds store false true h = h
all_step uses ds store false false h = puts_in_use uses ds store.entries h

withdraw_step : (uses : List ℕ → Bool) (id : List ℕ) (store : Store) (unknown used : Bool) → InUse uses store.entries
    → InUse uses (store_by_outcome store (refuse_if unknown (fault_at nowhere Unknown) (refuse_if used (fault_at nowhere Used) (Ok (with_entries store (without_pod id store.entries)))))).entries
withdraw_step uses id store true used h = h
withdraw_step uses id store false true h = h
withdraw_step uses id store false false h = without_in_use uses id store.entries h

decide_in_use : (uses : List ℕ → Bool) (ds : Decisions) (store : Store) → InUse uses store.entries → InUse uses (decide ds store).entries
decide_in_use uses (Breaks ds) store h = all_step uses ds store (list_any (names_used store) ds) (nat_lt 256 (count_with store ds)) h
decide_in_use uses (Withdraw id) store h = withdraw_step uses id store (not (has_own store id)) (is_used store id) h
decide_in_use uses (Fallback pod) store h = h
decide_in_use uses NoFallback store h = h

after_in_use : (uses : List ℕ → Bool) (store : List Entry) → InUse uses (entries_after uses store)
after_in_use uses [] = tt
after_in_use uses (e ∷ store) = grind (arith, after_in_use uses store)

abbrev uses_then : Told → List ℕ → Bool
uses_then t id = in_use t.start (first_shown t.accepted) t.history id

refusal_step : (tolerance : ℕ) (t : Told) (playlist : Playlist) → InUse (uses_then t) t.store.entries → (o : Option RefreshFault)
    → InUse (uses_then (cond (is_none o) (after_refresh tolerance t playlist) t)) (cond (is_none o) (after_refresh tolerance t playlist) t).store.entries
refusal_step tolerance t playlist h None =
    let history = history_after (moment tolerance t playlist) t.history playlist in
    let start = start_after (last_playlist t.accepted) t.start t.history playlist history in
    let first = first_number playlist.segments in
    after_in_use (in_use start first history) (with_copies t.store (breaks_in_use start first history)).entries
refusal_step tolerance t playlist h (Some x) = h

event_in_use : (tolerance : ℕ) (t : Told) (event : Event) → InUse (uses_then t) t.store.entries → InUse (uses_then (happens tolerance t event)) (happens tolerance t event).store.entries
event_in_use tolerance t (decided ds) h = decide_in_use (uses_then t) ds t.store h
event_in_use tolerance t (refreshed playlist) h = refusal_step tolerance t playlist h (refusal tolerance t playlist)

all_in_use : (tolerance : ℕ) (events : List Event) → InUse (uses_then (told tolerance events)) (told tolerance events).store.entries
all_in_use tolerance [] = tt
all_in_use tolerance (event ∷ before) = event_in_use tolerance (told tolerance before) event (all_in_use tolerance before)

-- ---- from an entry to its break

used_step : (uses : List ℕ → Bool) (id : List ℕ) (e : Entry) (store : List Entry) → InUse uses (e ∷ store) → (is_used_entry (find (has_id id) store) ≡ true → uses id ≡ true) → (b : Bool) → bytes_eq id e.id ≡ b
    → is_used_entry (cond b (Some e) (find (has_id id) store)) ≡ true → uses id ≡ true
used_step uses id e store h rec true same k = ap uses ((bytes_eq-Decides id e.id).0 same) ∙ h.0 k
used_step uses id e store h rec false same k = rec k

used_uses : (uses : List ℕ → Bool) (id : List ℕ) (store : List Entry) → InUse uses store → is_used_entry (find (has_id id) store) ≡ true → uses id ≡ true
used_uses uses id [] h k = absurd (cc)
used_uses uses id (e ∷ store) h k = used_step uses id e store h (used_uses uses id store h.1) (bytes_eq id e.id) refl k

-- ---- from a break in use to its entry

mark_used : (store : Store) (id : List ℕ) (mark : Option Mark) → HasPod store mark → is_mark_of id mark ≡ true → is_used store id ≡ true
mark_used store id mark h k = grind (arith, bytes_eq-Decides)

shown_step : (store : Store) (first : ℕ) (id : List ℕ) (s : Marked) (rest : Bool) → (first ≤ s.segment.media_sequence → HasPod store s.mark) → (rest ≡ true → is_used store id ≡ true) → (a b : Bool)
    → nat_le first s.segment.media_sequence ≡ a → is_mark_of id s.mark ≡ b → ((a && b) || rest) ≡ true → is_used store id ≡ true
shown_step store first id s rest h rec a b e f k = grind (arith, mark_used, leb-true)

shown_used : (store : Store) (first : ℕ) (id : List ℕ) (history : List Marked) → ShownHavePods store first history
    → list_any (λ (s : Marked). nat_le first s.segment.media_sequence && is_mark_of id s.mark) history ≡ true → is_used store id ≡ true
shown_used store first id [] h k = absurd (cc)
shown_used store first id (s ∷ before) h k =
    shown_step store first id s (list_any (λ (x : Marked). nat_le first x.segment.media_sequence && is_mark_of id x.mark) before) h.0 (shown_used store first id before h.1)
    (nat_le first s.segment.media_sequence) (is_mark_of id s.mark) refl refl k

either : (store : Store) (id : List ℕ) (a b : Bool) → (a ≡ true → is_used store id ≡ true) → (b ≡ true → is_used store id ≡ true) → (a || b) ≡ true → is_used store id ≡ true
either store id true b f g k = f refl
either store id false b f g k = g k

both : (a b : Bool) → (a ≡ true → b ≡ true) → (b ≡ true → a ≡ true) → a ≡ b
both true b f g = sym (f refl)
both false true f g = g refl
both false false f g = refl

rest_used : (store : Store) (id : List ℕ) (rest : Option PodRest) → HasPod store (rest_mark rest) → is_this_break id (rest_id rest) ≡ true → is_used store id ≡ true
rest_used store id None h k = absurd (cc)
rest_used store id (Some rest) h k = mark_used store id (Some rest.mark) h k

no_rest : (start : ℕ) → rest_before start 0 [] ≡ None
no_rest start = grind arith

rest_there : (store : Store) (accepted : List Accepted) (history : List Marked) (start : ℕ) → WindowOf accepted history start
    → HasPod store (rest_mark (rest_by (last_playlist accepted) start history)) → HasPod store (rest_mark (rest_before start (first_shown accepted) history))
unfolding WindowOf
rest_there store accepted history start w h = grind arith

pub used_are_in_use : UsedAreInUse
used_are_in_use tolerance events id sound =
    let t = told tolerance events in
    let pods = marks_have_pods tolerance events sound in
    let first = first_shown t.accepted in
    let rest = rest_before t.start first t.history in
    both (is_used t.store id) (uses_then t id) (used_uses (uses_then t) id t.store.entries (all_in_use tolerance events))
    (λ k. either t.store id (is_shown first t.history id) (is_this_break id (rest_id rest))
    (either t.store id (list_any (λ (s : Marked). nat_le first s.segment.media_sequence && is_mark_of id s.mark) t.history) (is_this_break id (last_entered t.history))
    (shown_used t.store first id t.history pods.0) (mark_used t.store id (last_mark t.history) pods.1.0))
    (rest_used t.store id rest (rest_there t.store t.accepted t.history t.start (holds tolerance events sound).standing pods.1.1)) (sym (in_use_is t.start first t.history id) ∙ k))
