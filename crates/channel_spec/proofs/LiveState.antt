-- What holds of all that a list of events tells, and that each window succeeds the one before.
use Rattle.std.proofs.Common.{◌≡◌, ℕ, ◌+◌, ◌<◌, ◌≤◌, Bool, true, false, cond, not, ◌||◌, List, [], ◌∷◌, ◌++◌, map, length, refl, ap, sym, ◌∙◌, subst, arith}
use Rattle.std.specs.Prelude.{Option, None, Ok, fold, is_some, filter, nat_lt, bytes_eq}
use Rattle.std.specs.List.{AllByRecursion}
use Rattle.playlist_model.specs.Segments.{Segment}
use Rattle.playlist_model.specs.declared.Playlist.{Playlist}
use Rattle.pod_store.specs.Pods.{Pod}
use Rattle.pod_store.specs.Store.{Entry, Store, put, without_pod, copied_last, with_copy, with_copies, is_one_of, kept_in_use}
use Rattle.spec_words.specs.Outcomes.{refuse_if}
use Rattle.pod_store.specs.declared.fault.DecisionFault.{DecisionFault}
use Rattle.pod_store.specs.declared.Decisions.{Decisions}
use Rattle.pod_store.specs.declared.Decisions.TheVariants.{Breaks, Withdraw, Fallback, NoFallback}
use Rattle.pod_store.specs.Marks.{Marked, newest_mark}
use Rattle.channel_spec.specs.Marking.{Moment, next_shown, show_all, is_new, segment_instant, history_after}
use Rattle.channel_spec.specs.Live.{succession_fault, last_playlist, store_by_outcome, decide}
use Rattle.channel_spec.proofs.StoreAfter.{entries_after}
use Rattle.break_finder.specs.Known.{Accepted}
use Rattle.channel_spec.specs.Successor.{first_number, end_number, last_discontinuity, has_init_sections}
use Rattle.channel_spec.specs.Sound.{IsSoundPlaylist, IsSoundPod, AllPods}
use Rattle.channel_spec.proofs.Fills.{IsGood, IsPodOrNone, HavePods, IsStore, IsAlike, fill_good}
use Rattle.channel_spec.proofs.Risen.{FallFrom, newest_discontinuity, fall_on, length_on, newest_on, past, are_past, last_same}
use Rattle.channel_spec.proofs.Passed.{Passed, passed}

-- ---- the history after a refresh is alike

pub newest_good : (m : Bool) (history : List Marked) → AllByRecursion (IsAlike m) history → IsGood m (newest_mark history)
unfolding IsGood
newest_good m [] h = tt
newest_good m (s ∷ before) h = h.0.mark

pub show_alike : (m : Moment) (history : List Marked) (segments : List Segment) → IsStore m.store → AllByRecursion (IsAlike m.with_init_sections) history
    → AllByRecursion (λ (s : Segment). is_some s.init_section ≡ m.with_init_sections) segments → AllByRecursion (IsAlike m.with_init_sections) (show_all m history segments)
show_alike m history [] k h a = h
show_alike m history (s ∷ later) k h a =
    let here : IsAlike m.with_init_sections (next_shown m history s later) = record {
      init_section = a.0;
      mark = fill_good m history (segment_instant history s later) k (newest_good m.with_init_sections history h);
    } in
    show_alike m (next_shown m history s later ∷ history) later k (here, h) a.1

filter_step : {A : Type 0} (P : A → Type 0) (x : A) (xs : List A) (b : Bool) → P x → AllByRecursion P xs → AllByRecursion P (cond b (x ∷ xs) xs)
filter_step P x xs true p h = (p, h)
filter_step P x xs false p h = h

all_filter : {A : Type 0} (P : A → Type 0) (test : A → Bool) (xs : List A) → AllByRecursion P xs → AllByRecursion P (filter test xs)
all_filter P test [] h = tt
all_filter P test (x ∷ xs) h = filter_step P x (filter test xs) (test x) h.0 (all_filter P test xs h.1)

pub all_new : (segments : List Segment) → filter (is_new []) segments ≡ segments
all_new [] = refl
all_new (s ∷ later) = ap (λ xs. s ∷ xs) (all_new later)

-- ---- the standing of the history under the last playlist

pub record Standing (last : Playlist) (history : List Marked) : Type 0 where
  pub read : IsSoundPlaylist last
  pub some : 0 < length history
  pub falls : FallFrom (end_number last.segments) history
  pub discontinuity_sequence : newest_discontinuity history ≡ last_discontinuity last.segments
  pub alike : AllByRecursion (IsAlike (has_init_sections last.segments)) history
  pub long : length last.segments ≤ length history

pub first_standing : (m : Moment) (playlist : Playlist) → IsSoundPlaylist playlist → m.with_init_sections ≡ has_init_sections playlist.segments → IsStore m.store → Standing playlist (history_after m [] playlist)
first_standing m playlist r e k =
    let segments = playlist.segments in
    let all = all_new segments in
    let same : history_after m [] playlist ≡ show_all m [] segments = ap (λ xs. show_all m [] xs) all in
    let size = ap length same ∙ length_on m [] segments in
    record {
      read = r;
      some = omega (arith, size, r.some);
      falls = subst (λ h. FallFrom (end_number segments) h) (sym same) (fall_on m (first_number segments) [] segments tt r.numbers);
      discontinuity_sequence = ap newest_discontinuity same ∙ newest_on m [] segments r.some;
      alike = subst (λ h. AllByRecursion (IsAlike (has_init_sections segments)) h) (sym same)
          (subst (λ b. AllByRecursion (IsAlike b) (show_all m [] segments)) e
          (show_alike m [] segments k tt (subst (λ b. AllByRecursion (λ (s : Segment). is_some s.init_section ≡ b) segments) (sym e) r.with_init_sections)));
      long = omega (arith, size);
    }

later_discontinuity : (m : Moment) (history : List Marked) (new segments : List Segment) (last : ℕ) → newest_discontinuity history ≡ last
    → (0 < length new → last_discontinuity new ≡ last_discontinuity segments) → (length new ≡ 0 → last_discontinuity segments ≡ last)
    → newest_discontinuity (show_all m history new) ≡ last_discontinuity segments
later_discontinuity m history [] segments last e f g = e ∙ sym (g refl)
later_discontinuity m history (s ∷ new) segments last e f g = newest_on m history (s ∷ new) (omega arith) ∙ f (omega arith)

pub later_standing : (m : Moment) (last playlist : Playlist) (history : List Marked) → Standing last history → Passed last playlist → IsSoundPlaylist playlist
    → m.with_init_sections ≡ has_init_sections playlist.segments → IsStore m.store → Standing playlist (history_after m history playlist)
later_standing m last playlist [] s p r e k = absurd (omega (arith, s.some))
later_standing m last playlist (newest ∷ before) s p r e k =
    let segments = playlist.segments in
    let history = newest ∷ before in
    let new = past newest.segment.media_sequence segments in
    let end : newest.segment.media_sequence + 1 ≡ end_number last.segments = s.falls.0 in
    let a = are_past newest.segment.media_sequence (first_number segments) segments (omega (arith, end, p.no_gap)) r.numbers in
    let count = a.count (omega (arith, end, p.not_shrunk)) in
    let size = length_on m history new in
    let was : m.with_init_sections ≡ has_init_sections last.segments = e ∙ p.with_init_sections in
    let none : length new ≡ 0 → last_discontinuity segments ≡ last_discontinuity last.segments = λ z.
    last_same last.segments segments (first_number last.segments) (first_number segments) p.same s.read.numbers r.numbers (omega (arith, z, count, end)) s.read.some r.some in
    record {
      read = r;
      some = omega (arith, size);
      falls = subst (λ n. FallFrom n (show_all m history new)) count (fall_on m (newest.segment.media_sequence + 1) history new (refl, s.falls.1) a.rise);
      discontinuity_sequence = later_discontinuity m history new segments (last_discontinuity last.segments) s.discontinuity_sequence a.last none;
      alike = subst (λ b. AllByRecursion (IsAlike b) (show_all m history new)) e
          (show_alike m history new k (subst (λ b. AllByRecursion (IsAlike b) history) (sym was) s.alike)
          (all_filter (λ (x : Segment). is_some x.init_section ≡ m.with_init_sections) (λ (x : Segment). nat_lt newest.segment.media_sequence x.media_sequence) segments
          (subst (λ b. AllByRecursion (λ (x : Segment). is_some x.init_section ≡ b) segments) (sym e) r.with_init_sections)));
      long = omega (arith, size, count, end, s.long, p.not_back);
    }

-- ---- the store holds pods

put_step : (d : List ℕ × Pod) (e : Entry) (store : List Entry) → IsSoundPod d.1 → HavePods (e ∷ store) → HavePods (put store d)
    → (b : Bool) → HavePods (cond b (record { id = e.id; pod = d.1; used = false; copied = false } ∷ store) (e ∷ put store d))
unfolding HavePods
put_step d e store p h k true = (p, h.1)
put_step d e store p h k false = (h.0, k)

put_pod : (d : List ℕ × Pod) (store : List Entry) → IsSoundPod d.1 → HavePods store → HavePods (put store d)
unfolding HavePods
put_pod d [] p h = (p, tt)
put_pod d (e ∷ store) p h = put_step d e store p h (put_pod d store p h.1) (bytes_eq d.0 e.id)

put_all_pods : (ds : List (List ℕ × Pod)) (store : List Entry) → AllByRecursion (λ (d : List ℕ × Pod). IsSoundPod d.1) ds → HavePods store → HavePods (fold put store ds)
put_all_pods [] store p h = h
put_all_pods (d ∷ ds) store p h = put_all_pods ds (put store d) p.1 (put_pod d store p.0 h)

without_step : (e : Entry) (store more : List Entry) → HavePods (e ∷ store) → HavePods more → (b : Bool) → HavePods (cond b store (e ∷ more))
unfolding HavePods
without_step e store more h k true = h.1
without_step e store more h k false = (h.0, k)

without_pods : (id : List ℕ) (store : List Entry) → HavePods store → HavePods (without_pod id store)
unfolding HavePods
without_pods id [] h = tt
without_pods id (e ∷ store) h = grind (arith, without_pods id store h.1)

either_store : (a b : Bool) (f g : DecisionFault) (x y : Store) → IsStore x → IsStore y → IsStore (store_by_outcome x (refuse_if a f (refuse_if b g (Ok y))))
either_store true b f g x y h k = h
either_store false true f g x y h k = h
either_store false false f g x y h k = k

pub decide_pods : (ds : Decisions) (store : Store) → AllPods IsSoundPod ds → IsStore store → IsStore (decide ds store)
unfolding IsPodOrNone
decide_pods (Breaks ds) store p h = grind (arith, either_store, put_all_pods)
decide_pods (Withdraw id) store p h = grind (arith, either_store, without_pods)
decide_pods (Fallback pod) store p h = record { entries = h.entries; fallback = p }
decide_pods NoFallback store p h = record { entries = h.entries; fallback = tt }

last_pod : (store : List Entry) (x : Entry) → HavePods store → IsSoundPod x.pod → HavePods (store ++ (x ∷ []))
unfolding HavePods
last_pod [] x h p = (p, tt)
last_pod (e ∷ store) x h p = (h.0, last_pod store x h.1 p)

copy_pods : (id : List ℕ) (store : List Entry) (pod : Option Pod) → HavePods store → IsPodOrNone pod → HavePods (copied_last store id pod)
unfolding IsPodOrNone
copy_pods id store pod h p = grind (arith, last_pod)

copied_pods : (store : Store) (id : List ℕ) → IsStore store → IsStore (with_copy store id)
copied_pods store id h = grind (arith, IsStore, copy_pods)

copies_pods : (store : Store) (ids : List (List ℕ)) → IsStore store → IsStore (with_copies store ids)
copies_pods store [] h = h
copies_pods store (id ∷ ids) h = copies_pods (with_copy store id) ids (copied_pods store id h)

marked_pods : (used : List ℕ → Bool) (store : List Entry) → HavePods store → HavePods (map (λ (e : Entry). record e { used = used e.id }) store)
unfolding HavePods
marked_pods used [] h = tt
marked_pods used (e ∷ store) h = (h.0, marked_pods used store h.1)

entries_pods : (used : List ℕ → Bool) (store : List Entry) → HavePods store → HavePods (entries_after used store)
unfolding HavePods
entries_pods used store h = marked_pods used (filter (λ (e : Entry). not e.used || used e.id) store) (all_filter (λ (e : Entry). IsSoundPod e.pod) (λ (e : Entry). not e.used || used e.id) store h)

pub kept_pods : (ids : List (List ℕ)) (store : Store) → IsStore store → IsStore (kept_in_use ids store)
kept_pods ids store h = record { entries = entries_pods (is_one_of ids) (with_copies store ids).entries (copies_pods store ids h).entries; fallback = h.fallback }

-- ---- what holds after every list of events

unfoldable pub StandingOf : List Accepted → List Marked → Type 0
StandingOf [] history = history ≡ []
StandingOf (r ∷ before) history = Standing r.playlist history

pub new_standing : (m : Moment) (accepted : List Accepted) (history : List Marked) (playlist : Playlist) → StandingOf accepted history → IsSoundPlaylist playlist
    → m.with_init_sections ≡ has_init_sections playlist.segments → IsStore m.store → succession_fault (last_playlist accepted) playlist ≡ None → Standing playlist (history_after m history playlist)
unfolding StandingOf
new_standing m [] history playlist s r e k f = subst (λ h. Standing playlist (history_after m h playlist)) (sym s) (first_standing m playlist r e k)
new_standing m (a ∷ before) history playlist s r e k f = later_standing m a.playlist playlist history s (passed a.playlist playlist f) r e k
