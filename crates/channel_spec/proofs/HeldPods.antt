-- The store has the pods of the marks that are shown, and of the last break entered.
use Rattle.std.proofs.Common.{◌≡◌, inl, inr, ℕ, ◌≤◌, Bool, true, false, cond, ◌&&◌, ◌||◌, not, List, [], ◌∷◌, ◌++◌, map, refl, ap, sym, ◌∙◌, arith}
use Rattle.std.proofs.lemmas.Bool.{le-leb, and_from, or_parts}
use Rattle.std.proofs.lemmas.Slice.Eq.{bytes_eq-Decides}
use Rattle.std.specs.Prelude.{Option, Some, None, Ok, fold, option_map, ℤ, nat_le, bytes_eq, find, filter}
use Rattle.std.specs.List.{AllByRecursion, list_any}
use Rattle.playlist_model.specs.Segments.{Segment}
use Rattle.playlist_model.specs.declared.Playlist.{Playlist}
use Rattle.playlist_model.specs.LookBack.{or_earlier}
use Rattle.pod_store.specs.Pods.{Pod}
use Rattle.pod_store.specs.Marks.{Mark, Marked, newest_mark}
use Rattle.pod_store.specs.Store.{Entry, Store, with_entries, with_copies, has_id, pod_of, entry_for, pod_for, is_used, is_used_entry, is_one_of, put, without_pod, names_used, kept_in_use}
use Rattle.pod_store.proofs.Copies.{all_own}
use Rattle.spec_words.specs.Outcomes.{refuse_if}
use Rattle.pod_store.specs.Outcome.{fault_at, nowhere}
use Rattle.pod_store.specs.declared.Decisions.{Decisions}
use Rattle.pod_store.specs.declared.Decisions.TheVariants.{Breaks, Withdraw, Fallback, NoFallback}
use Rattle.pod_store.specs.declared.fault.DecisionKind.TheVariants.{Used, Full, Unknown}
use Rattle.break_finder.specs.Known.{Accepted, is_this_break}
use Rattle.channel_spec.specs.Marking.{Moment, last_mark, last_entered, continued, entered, mark_of, segment_instant, next_shown, show_all}
use Rattle.channel_spec.specs.Successor.{first_number}
use Rattle.channel_spec.specs.Live.{succession_fault, last_playlist, store_by_outcome, decide, is_mark_of, in_use, in_use_with, ids_of_option, marks_from, rest_before, rest_id}
use Rattle.channel_spec.proofs.StoreAfter.{entries_after}
use Rattle.stitcher.specs.Paced.{PodRest}
use Rattle.channel_spec.specs.LiveLaws.{HasPod, first_shown}
use Rattle.channel_spec.proofs.Windows.{In}
use Rattle.channel_spec.proofs.Passed.{passed}
use Rattle.channel_spec.proofs.Entries.{IsEntered, entered_is}

pub same_id : (id : List ℕ) → bytes_eq id id ≡ true
same_id id = (bytes_eq-Decides id id).1 refl

not_other : (a b : List ℕ) (t : Bool) → bytes_eq a b ≡ t → (a ≡ b → ⊥) → t ≡ false
not_other a b true e h = absurd (h ((bytes_eq-Decides a b).0 e))
not_other a b false e h = refl

-- ---- the break is filled with this pod, its own or the fallback

unfoldable pub Has : Store → Option Mark → Type 0
Has store None = Unit {0}
Has store (Some mark) = pod_for store mark.id ≡ Some mark.pod

pub has_some : (store : Store) (mark : Option Mark) → HasPod store mark → Has store mark
unfolding Has
has_some store None h = tt
has_some store (Some mark) h = ap (λ o. or_earlier (option_map pod_of o) store.fallback) h.1

-- ---- decisions

-- another entry is put
put_step : (id : List ℕ) (d : List ℕ × Pod) (e : Entry) (store : List Entry) → bytes_eq id d.0 ≡ false → find (has_id id) (put store d) ≡ find (has_id id) store
    → (b : Bool) → bytes_eq d.0 e.id ≡ b
    → find (has_id id) (cond b (record { id = e.id; pod = d.1; used = false; copied = false } ∷ store) (e ∷ put store d)) ≡ find (has_id id) (e ∷ store)
put_step id d e store other rec b same = grind (arith, bytes_eq-Decides)

put_other : (id : List ℕ) (d : List ℕ × Pod) (store : List Entry) → bytes_eq id d.0 ≡ false → find (has_id id) (put store d) ≡ find (has_id id) store
put_other id d [] other = rw other refl
put_other id d (e ∷ store) other = put_step id d e store other (put_other id d store other) (bytes_eq d.0 e.id) refl

put_others : (id : List ℕ) (ds : List (List ℕ × Pod)) (store : List Entry) → AllByRecursion (λ (d : List ℕ × Pod). bytes_eq id d.0 ≡ false) ds
    → find (has_id id) (fold put store ds) ≡ find (has_id id) store
put_others id [] store h = refl
put_others id (d ∷ ds) store h = put_others id ds (put store d) h.1 ∙ put_other id d store h.0

found_used : (id : List ℕ) (store : Store) (x : Entry) → x.used ≡ true → entry_for store id ≡ Some x → is_used store id ≡ true
found_used id store x u h = ap is_used_entry h ∙ u

unused_others : (store : Store) (id : List ℕ) (ds : List (List ℕ × Pod)) → is_used store id ≡ true → list_any (names_used store) ds ≡ false
    → AllByRecursion (λ (d : List ℕ × Pod). bytes_eq id d.0 ≡ false) ds
unused_others store id [] u h = tt
unused_others store id (d ∷ ds) u h =
    let a = or_parts (is_used store d.0) _ h in
    (not_other id d.0 (bytes_eq id d.0) refl (λ e. let k : true ≡ false = sym u ∙ (ap (is_used store) e ∙ a.0) in absurd (cc)), unused_others store id ds u a.1)

all_step : (ds : List (List ℕ × Pod)) (store : Store) (mark : Mark) (used full : Bool) → list_any (names_used store) ds ≡ used
    → HasPod store (Some mark) → HasPod (store_by_outcome store (refuse_if used (fault_at nowhere Used) (refuse_if full (fault_at nowhere Full) (Ok (with_entries store (fold put store.entries ds)))))) (Some mark)
all_step ds store mark used full e h = grind (arith, put_others, unused_others, found_used)

drop_step : (id other : List ℕ) (e : Entry) (store : List Entry) → bytes_eq id other ≡ false → (b : Bool) → bytes_eq other e.id ≡ b
    → find (has_id id) (without_pod other store) ≡ find (has_id id) store
    → find (has_id id) (cond b store (e ∷ without_pod other store)) ≡ find (has_id id) (e ∷ store)
drop_step id other e store h b same rec = grind (arith, bytes_eq-Decides)

drop_other : (id other : List ℕ) (store : List Entry) → bytes_eq id other ≡ false → find (has_id id) (without_pod other store) ≡ find (has_id id) store
drop_other id other [] h = refl
drop_other id other (e ∷ store) h = drop_step id other e store h (bytes_eq other e.id) refl (drop_other id other store h)

withdraw_step : (id : List ℕ) (store : Store) (mark : Mark) (unknown used : Bool) → is_used store id ≡ used → HasPod store (Some mark)
    → HasPod (store_by_outcome store (refuse_if unknown (fault_at nowhere Unknown) (refuse_if used (fault_at nowhere Used) (Ok (with_entries store (without_pod id store.entries)))))) (Some mark)
withdraw_step id store mark unknown used e h = grind (arith, found_used, drop_other, not_other)

pub decide_keeps : (ds : Decisions) (store : Store) (mark : Option Mark) → HasPod store mark → HasPod (decide ds store) mark
decide_keeps ds store None h = tt
decide_keeps (Breaks ds) store (Some mark) h = grind (arith, all_step)
decide_keeps (Withdraw id) store (Some mark) h = grind (arith, withdraw_step)
decide_keeps (Fallback pod) store (Some mark) h = h
decide_keeps NoFallback store (Some mark) h = h

-- ---- new marks

continued_has : (m : Moment) (instant : Option ℤ) (mark : Option Mark) → Has m.store mark → Has m.store (continued m instant mark)
unfolding Has
continued_has m instant mark h = grind arith

entry_has : (m : Moment) (last : Option (List ℕ)) (o : Option Mark) → IsEntered m last o → Has m.store o
unfolding Has IsEntered
entry_has m last None h = tt
entry_has m last (Some f) h = h.decided

or_has : (store : Store) (a b : Option Mark) → Has store a → Has store b → Has store (or_earlier a b)
unfolding Has
or_has store None b f g = g
or_has store (Some x) b f g = f

entered_has : (m : Moment) (instant : Option ℤ) (last : Option (List ℕ)) → Has m.store (entered m instant last)
entered_has m instant last = entry_has m last (entered m instant last) (entered_is m instant last)

newest_has : (store : Store) (before : List Marked) → Has store (last_mark before) → Has store (newest_mark before)
unfolding Has
newest_has store before h = grind arith

mark_has : (m : Moment) (before : List Marked) (instant : Option ℤ) → Has m.store (last_mark before) → Has m.store (mark_of m before instant)
mark_has m before instant h = grind (arith, or_has, continued_has, newest_has, entered_has)

pub record AllHas (store : Store) (first : ℕ) (history : List Marked) : Type 0 where
  pub shown : AllByRecursion (λ (s : Marked). first ≤ s.segment.media_sequence → Has store s.mark) history
  pub last : Has store (last_mark history)

pub show_has : (m : Moment) (first : ℕ) (history : List Marked) (segments : List Segment) → AllHas m.store first history → AllHas m.store first (show_all m history segments)
show_has m first history [] h = h
show_has m first history (s ∷ later) h =
    let here = mark_has m history (segment_instant history s later) h.last in
    show_has m first (next_shown m history s later ∷ history) later (record {
      shown = (λ n. here, h.shown);
      last = or_has m.store (mark_of m history (segment_instant history s later)) (last_mark history) here h.last;
    })

-- ---- the store after a refresh

kept_step : (used : List ℕ → Bool) (id : List ℕ) (e : Entry) (store : List Entry) (x : Entry) → used id ≡ true
    → (find (has_id id) store ≡ Some x → find (has_id id) (entries_after used store) ≡ Some (record x { used = used x.id }))
    → (b : Bool) → bytes_eq id e.id ≡ b → cond b (Some e) (find (has_id id) store) ≡ Some x
    → (k : Bool) → (not e.used || used e.id) ≡ k
    → find (has_id id) (map (λ (y : Entry). record y { used = used y.id }) (cond k (e ∷ filter (λ (y : Entry). not y.used || used y.id) store) (filter (λ (y : Entry). not y.used || used y.id) store))) ≡ Some (record x { used = used x.id })
kept_step used id e store x u rec b same h k keep = grind (arith, bytes_eq-Decides)

pub kept_found : (used : List ℕ → Bool) (id : List ℕ) (store : List Entry) (x : Entry) → used id ≡ true → find (has_id id) store ≡ Some x
    → find (has_id id) (entries_after used store) ≡ Some (record x { used = used x.id })
kept_found used id [] x u h = absurd (cc)
kept_found used id (e ∷ store) x u h = kept_step used id e store x u (kept_found used id store x u) (bytes_eq id e.id) refl h (not e.used || used e.id) refl

id_step : (id : List ℕ) (x e : Entry) (store : List Entry) (b : Bool) → bytes_eq id x.id ≡ b → cond b (Some x) (find (has_id id) store) ≡ Some e
    → (find (has_id id) store ≡ Some e → e.id ≡ id) → e.id ≡ id
id_step id x e store b same k rec = grind (arith, bytes_eq-Decides)

found_id : (id : List ℕ) (store : List Entry) (e : Entry) → find (has_id id) store ≡ Some e → e.id ≡ id
found_id id [] e h = absurd (cc)
found_id id (x ∷ store) e h = id_step id x e store (bytes_eq id x.id) refl h (found_id id store e)

entry_is : (used : List ℕ → Bool) (e : Entry) (f : Mark) → e.id ≡ f.id → e.pod ≡ f.pod → used f.id ≡ true
    → ◌≡◌ {A = Option Entry} (Some (record e { used = used e.id })) (Some (record { id = f.id; pod = f.pod; used = true; copied = e.copied }))
entry_is used e f i p u = grind arith

pub after_has : (store : Store) (ids : List (List ℕ)) (mark : Option Mark) → Has store mark → ((f : Mark) → mark ≡ Some f → is_one_of ids f.id ≡ true) → HasPod (kept_in_use ids store) mark
unfolding Has
after_has store ids None h u = tt
after_has store ids (Some f) h u =
    let entries = (with_copies store ids).entries in
    let own = all_own store ids f.id f.pod (u f refl) h in
    let e = own.0 in
    (e.copied, kept_found (is_one_of ids) f.id entries e (u f refl) own.1.0 ∙ entry_is (is_one_of ids) e f (found_id f.id entries e own.1.0) own.1.1 (u f refl))

-- ---- which breaks are used

any_in : {A : Type 0} (test : A → Bool) (xs : List A) (x : A) → In x xs → test x ≡ true → list_any test xs ≡ true
unfolding In
any_in test [] x h e = absurd h
any_in test (y ∷ ys) x (inl same) e = ap (λ b. b || list_any test ys) (ap test (sym same) ∙ e)
any_in test (y ∷ ys) x (inr h) e = grind (arith, any_in test ys x h e)

pub or_front : (a b : Bool) → a ≡ true → (a || b) ≡ true
or_front true b e = refl
or_front false b e = absurd (cc)

pub or_back : (a b : Bool) → b ≡ true → (a || b) ≡ true
or_back true b e = refl
or_back false b e = e

-- it marks a shown segment of the origin, or is this one, which was entered last
abbrev pub is_shown_with : ℕ → List Marked → Option (List ℕ) → List ℕ → Bool
is_shown_with first history last id =
    list_any (λ (s : Marked). nat_le first s.segment.media_sequence && is_mark_of id s.mark) history || is_this_break id last

abbrev pub is_shown : ℕ → List Marked → List ℕ → Bool
is_shown first history id = is_shown_with first history (last_entered history) id

pub shown_used : (first : ℕ) (history : List Marked) (s : Marked) (f : Mark) → In s history → first ≤ s.segment.media_sequence → s.mark ≡ Some f → is_shown first history f.id ≡ true
shown_used first history s f h n e = grind (arith, or_front, any_in, and_from, le-leb, same_id)

pub last_used : (first : ℕ) (history : List Marked) (f : Mark) → last_mark history ≡ Some f → is_shown first history f.id ≡ true
last_used first history f e = grind (arith, or_back, same_id)

or_swap : (a b : Bool) → (a || b) ≡ (b || a)
or_swap true true = refl
or_swap true false = refl
or_swap false true = refl
or_swap false false = refl

or_alone : (b : Bool) → (b || false) ≡ b
or_alone true = refl
or_alone false = refl

grouped : (a b c : Bool) → (a || (b || c)) ≡ ((a || b) || c)
grouped true b c = refl
grouped false b c = refl

one_of_append : (xs ys : List (List ℕ)) (id : List ℕ) → is_one_of (xs ++ ys) id ≡ (is_one_of xs id || is_one_of ys id)
one_of_append [] ys id = refl
one_of_append (x ∷ xs) ys id = grind (arith, one_of_append xs ys id)

one_id : (o : Option (List ℕ)) (id : List ℕ) → is_one_of (ids_of_option o) id ≡ is_this_break id o
one_id None id = refl
one_id (Some other) id = or_alone (bytes_eq id other)

marks_listed : (first : ℕ) (history : List Marked) (id : List ℕ)
    → is_one_of (marks_from first history) id ≡ list_any (λ (s : Marked). nat_le first s.segment.media_sequence && is_mark_of id s.mark) history
marks_listed first [] id = refl
marks_listed first (s ∷ before) id = grind (arith, one_of_append, or_swap, one_id, marks_listed first before id)

-- the breaks in use are those that are shown, and that of the rest
pub in_use_with_is : (first : ℕ) (history : List Marked) (last : Option (List ℕ)) (rest : Option PodRest) (id : List ℕ)
    → is_one_of (in_use_with first history last rest) id ≡ (is_shown_with first history last id || is_this_break id (rest_id rest))
in_use_with_is first history last rest id = grind (arith, one_of_append, marks_listed, one_id, grouped)

pub in_use_is : (start first : ℕ) (history : List Marked) (id : List ℕ) → in_use start first history id ≡ (is_shown first history id || is_this_break id (rest_id (rest_before start first history)))
in_use_is start first history id = grind (arith, in_use_with_is)

-- ---- the last refresh

pub all_more : {A : Type 0} (P Q : A → Type 0) (xs : List A) → ((x : A) → P x → Q x) → AllByRecursion P xs → AllByRecursion Q xs
all_more P Q [] f h = tt
all_more P Q (x ∷ xs) f h = (f x h.0, all_more P Q xs f h.1)

pub not_back : (accepted : List Accepted) (playlist : Playlist) → succession_fault (last_playlist accepted) playlist ≡ None → first_shown accepted ≤ first_number playlist.segments
not_back [] playlist e = omega arith
not_back (a ∷ before) playlist e = (passed a.playlist playlist e).not_back
