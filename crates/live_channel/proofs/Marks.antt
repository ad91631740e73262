-- The breaks that mark segments, as a channel holds them and as they are meant.
use Rattle.std.proofs.Common.{◌≡◌, Bool, false, cond, ℕ, ◌<◌, ◌≤◌, ◌+◌, ◌-◌, ◌⊎◌, inl, inr, suc, true, List, [], ◌∷◌, ◌++◌, length, get_or, length-append, map, refl, ap, sym, subst, ◌∙◌, append_assoc, arith}
use Rattle.std.proofs.lemmas.Bool.{lt-leb, cases_lt}
use Rattle.std.proofs.lemmas.Slice.Eq.{bytes_eq-Decides}
use Rattle.std.proofs.lemmas.List.{append-nil}
use Rattle.std.proofs.lemmas.List.Folds.{list_any-append}
use Rattle.std.proofs.lemmas.Option.{slice_get-get_or}
use Rattle.std.specs.Prelude.{Option, Some, None, IsSome, option_map, bytes_eq, ◌||◌, slice_get, nat_le}
use mathlib.Core.List.{reverse_aux}
use Rattle.pod_store.specs.Pods.{Pod}
use Rattle.pod_store.specs.Marks.{Marked, mark_with, mark_in}
use Rattle.pod_store.specs.Store.{Store, pod_for, is_one_of, has_no_pod}
use Rattle.pod_store.specs.Inner.Store.{NameTheSame}
use Rattle.pod_store.proofs.Repeats.{itself, and_then, with_more, once, last_named}
use Rattle.stitcher.specs.declared.marked.MarkedSegment.{MarkedSegment as Held}
use Rattle.stitcher.specs.StitchedSegments.{meant, rest_in, IsDecided, AreDecided, KnowAgain}
use Rattle.channel_spec.specs.Marking.{mark_id}
use Rattle.channel_spec.specs.Live.{ids_of_option, marks_from, in_use_with, rest_id}
use Rattle.channel_spec.specs.Kept.{Kept, rest_after}
use Rattle.channel_spec.specs.Successor.{first_number}
use Rattle.playlist_model.specs.declared.Playlist.{Playlist}
use Rattle.stitcher.specs.declared.ends.Rest.{Rest}
use Rattle.channel_window.proofs.Marked.{no_pod}
use Rattle.channel_window.specs.Listed.{IsRestDecided}
use Rattle.channel_window.specs.declared.state.ChannelState.{ChannelState}
use Rattle.channel_window.specs.Marking.{history_in}
use Rattle.stitcher.specs.Making.{is_same_stitched_run}
use Rattle.live_channel.specs.Inner.Marks.{IsAmongMarks, IsSettledAgain, AreSettled, mark_held, marks_held, live_marks_and_last, rest_held, breaks_held}

id_with : (id : List ℕ) (pod : Option Pod) → IsSome pod → option_map mark_id (mark_with id pod) ≡ Some id
id_with id None d = absurd (cc)
id_with id (Some pod) d = refl

id_seen : (store : Store) (o : Option (List ℕ)) → IsDecided store o → option_map mark_id (mark_in store o) ≡ o
id_seen store None d = refl
id_seen store (Some id) d = id_with id (pod_for store id) d

marks_onto : (store : Store) (number : ℕ) (held : List Held) (before : List Marked) → AreDecided store held
    → marks_from number (reverse_aux (map (meant store) held) before) ≡ marks_from number before ++ marks_held number held
marks_onto store number [] before d = sym (append-nil (marks_from number before))
marks_onto store number (m ∷ later) before d = grind (arith, id_seen, append_assoc, marks_onto store number later (meant store m ∷ before) d.1)

marks_seen : (store : Store) (number : ℕ) (held : List Held) (last other : Option (List ℕ)) → AreDecided store held → last ≡ other
    → live_marks_and_last number held last ≡ marks_from number (history_in store held) ++ ids_of_option other
marks_seen store number held last other d e = grind (arith, marks_onto)

rest_seen : (store : Store) (rest : Option Rest) → IsRestDecided store rest → rest_held rest ≡ ids_of_option (rest_id (rest_in store rest))
rest_seen store rest d = grind arith

pub breaks_seen : (state : ChannelState) (kept : Kept) (p : Playlist) (held : List Held) (last other : Option (List ℕ)) (rest : Option Rest) → AreDecided state.store held → last ≡ other
    → rest_in state.store rest ≡ rest_after kept p (history_in state.store held) → IsRestDecided state.store rest
    → breaks_held (first_number p.segments) held last rest ≡ in_use_with (first_number p.segments) (history_in state.store held) other (rest_after kept p (history_in state.store held))
breaks_seen state kept p held last other rest d e left decided =
    let number = first_number p.segments in
    let marks = marks_from number (history_in state.store held) in
    ap (λ ids. ids ++ rest_held rest) (marks_seen state.store number held last other d e)
    ∙ (ap (λ ids. (marks ++ ids_of_option other) ++ ids) (rest_seen state.store rest decided ∙ ap (λ o. ids_of_option (rest_id o)) left)
    ∙ append_assoc marks (ids_of_option other) (ids_of_option (rest_id (rest_after kept p (history_in state.store held)))))

-- a segment without a mark adds no break
pub none_there : (marks : List (List ℕ)) (number : ℕ) (m : Held) → m.mark ≡ None → NameTheSame marks (marks ++ mark_held number m)
none_there marks number m e = grind (arith, append-nil, itself)

-- nor does one before the number
pub none_before : (marks : List (List ℕ)) (number : ℕ) (m : Held) → m.segment.media_sequence < number → NameTheSame marks (marks ++ mark_held number m)
none_before marks number m h = grind (arith, lt-leb, append-nil, itself)

-- one from the number on adds its own
pub one_there : (marks new : List (List ℕ)) (number : ℕ) (m : Held) → number ≤ m.segment.media_sequence → NameTheSame new (marks ++ ids_of_option m.mark) → NameTheSame new (marks ++ mark_held number m)
one_there marks new number m h e = grind arith

pub one_marked : (marks new : List (List ℕ)) (number : ℕ) (here : Held) (later list : List Held) → NameTheSame (marks ++ marks_held number (here ∷ later)) (marks_held number list)
    → NameTheSame new (marks ++ mark_held number here) → NameTheSame (new ++ marks_held number later) (marks_held number list)
one_marked marks new number here later list h e =
    and_then (new ++ marks_held number later) ((marks ++ mark_held number here) ++ marks_held number later) (marks_held number list) (with_more new (marks ++ mark_held number here) (marks_held number later) e)
    (subst (λ ids. NameTheSame ids (marks_held number list)) (sym (append_assoc marks (mark_held number here) (marks_held number later))) h)

-- all of them are named, and then others
pub then_more : (marks new all more : List (List ℕ)) → NameTheSame (marks ++ []) all → NameTheSame new (marks ++ more) → NameTheSame new (all ++ more)
then_more marks new all more h e = grind (arith, and_then, with_more, append-nil)

-- one that stood last is put once
pub put_once : (marks : List (List ℕ)) (id : List ℕ) → is_one_of marks id ≡ true → NameTheSame marks (marks ++ id ∷ [])
put_once marks id h = once marks id h

-- a segment whose break is named adds none
pub named_before : (marks : List (List ℕ)) (mark : Option (List ℕ)) → IsAmongMarks marks mark → NameTheSame marks (marks ++ ids_of_option mark)
named_before marks None h = grind (arith, append-nil, itself)
named_before marks (Some id) h = put_once marks id h

-- so is that of a segment that goes on the run of one whose break is named
pub named_here : (marks : List (List ℕ)) (mark previous : Option (List ℕ)) → is_same_stitched_run mark previous ≡ true → IsAmongMarks marks previous → IsAmongMarks marks mark
named_here marks mark previous e h = grind (arith, bytes_eq-Decides)

-- so is one that was put
pub named_then : (marks new : List (List ℕ)) (mark : Option (List ℕ)) → NameTheSame new (marks ++ ids_of_option mark) → IsAmongMarks new mark
named_then marks new None h = tt
named_then marks new (Some id) h = grind (arith, last_named, bytes_eq-Decides)

-- one without a mark has none to name
pub none_among : (marks : List (List ℕ)) (mark : Option (List ℕ)) → mark ≡ None → IsAmongMarks marks mark
none_among marks None e = tt
none_among marks (Some id) e = absurd (cc e)

-- what is named stays so
still_named : (marks new more : List (List ℕ)) (mark : Option (List ℕ)) → NameTheSame new (marks ++ more) → IsAmongMarks marks mark → IsAmongMarks new mark
still_named marks new more None e h = tt
still_named marks new more (Some id) e h = e.ids id ∙ (list_any-append (bytes_eq id) marks more ∙ ap (λ b. b || is_one_of more id) h)

-- ---- the segments that are settled

pub none_settled : (marks : List (List ℕ)) (list : List Held) → AreSettled marks 0 list list
none_settled marks list = record { front = []; is = refl; within = omega arith; among = λ place m h g f. absurd (omega arith) }

first_left : (front later : List Held) (m : Held) → slice_get (front ++ m ∷ later) (length front) ≡ Some m
first_left [] later m = refl
first_left (x ∷ front) later m = first_left front later m

some_is : {A : Type 0} {a b : A} → ◌≡◌ {A = Option A} (Some a) (Some b) → a ≡ b
some_is h = cc h

first_found : (marks : List (List ℕ)) (settled : ℕ) (list later : List Held) (m : Held) (s : AreSettled marks settled list (m ∷ later)) → slice_get list (length s.front) ≡ Some m
first_found marks settled list later m s = ap (λ (xs : List Held). slice_get xs (length s.front)) s.is ∙ first_left s.front later m

-- a segment with the mark of one of them
pub settled_again : (marks : List (List ℕ)) (settled : ℕ) (list later : List Held) (m : Held) → KnowAgain list → AreSettled marks settled list (m ∷ later) → IsSettledAgain marks settled m
settled_again marks settled list later m k s some near =
    let place : ℕ = length s.front - m.again in
    let at : place + m.again ≡ length s.front = omega (arith, s.within) in
    let long : length list ≡ length s.front + suc (length later) = ap length s.is ∙ length-append s.front (m ∷ later) in
    let found : slice_get list place ≡ Some (get_or list place m) = slice_get-get_or list place m (omega (arith, long)) in
    let there : slice_get list (place + m.again) ≡ Some m = ap (slice_get list) at ∙ first_found marks settled list later m s in
    subst (IsAmongMarks marks) (sym (k place (get_or list place m) m found there)) (s.among place (get_or list place m) (omega arith) (omega arith) found)

-- one more, if its break is put or has none
pub settled_on : (marks new more : List (List ℕ)) (settled next : ℕ) (list later : List Held) (m : Held) → AreSettled marks settled list (m ∷ later) → NameTheSame new (marks ++ more)
    → (0 < next → IsAmongMarks new m.mark) → next ≤ settled + 1 → AreSettled new next list later
settled_on marks new more settled next list later m s same here near = record { front = s.front ++ m ∷ []; is = s.is ∙ sym (append_assoc s.front (m ∷ []) later); within = omega (arith, long, s.within); among = among }
  where
    long : length (s.front ++ m ∷ []) ≡ length s.front + 1
    long = length-append s.front (m ∷ [])

    among : (place : ℕ) (x : Held) → place < length (s.front ++ m ∷ []) → length (s.front ++ m ∷ []) ≤ place + next → slice_get list place ≡ Some x → IsAmongMarks new x.mark
    among place x inside close found = by (cases_lt place (length s.front))
      where
        by : (place < length s.front) ⊎ (length s.front ≤ place) → IsAmongMarks new x.mark
        by (inl before) = still_named marks new more x.mark same (s.among place x before (omega (arith, long)) found)
        by (inr last) =
            let at : place ≡ length s.front = omega (arith, long) in
            let is : m ≡ x = some_is (sym (first_found marks settled list later m s) ∙ (ap (slice_get list) (sym at) ∙ found)) in
            subst (λ (y : Held). IsAmongMarks new y.mark) is (here (omega (arith, long)))

pub put_again : (marks new more : List (List ℕ)) → new ≡ marks ++ more → NameTheSame new (marks ++ more)
put_again marks new more e = grind arith

pub put_none : (marks more : List (List ℕ)) → more ≡ [] → NameTheSame marks (marks ++ more)
put_none marks more e = grind (arith, append-nil, itself)

-- a break among those before the last is one of them
pub named_in_front : (marks before : List (List ℕ)) (last id : List ℕ) → marks ≡ before ++ last ∷ [] → is_one_of before id ≡ true → is_one_of marks id ≡ true
named_in_front marks before last id e h = ap (λ l. is_one_of l id) e ∙ (list_any-append (bytes_eq id) before (last ∷ []) ∙ ap (λ b. b || is_one_of (last ∷ []) id) h)

-- ---- if no break has a pod, none marks a segment

no_mark : (store : Store) (mark : Option (List ℕ)) → has_no_pod store ≡ true → IsDecided store mark → mark ≡ None
no_mark store None h d = refl
no_mark store (Some id) h d = absurd (nothing (pod_for store id) (no_pod store.entries store.fallback h id) d)
  where
    nothing : (pod : Option Pod) → pod ≡ None → IsSome pod → ⊥
    nothing None e d = cc
    nothing (Some pod) e d = cc e

unmarked_held : (number : ℕ) (m : Held) (b : Bool) → m.mark ≡ None → cond b (ids_of_option m.mark) [] ≡ []
unmarked_held number m true e = ap ids_of_option e
unmarked_held number m false e = refl

pub none_held : (store : Store) (list : List Held) → has_no_pod store ≡ true → AreDecided store list → (number : ℕ) → [] ≡ marks_held number list
none_held store [] h d number = refl
none_held store (m ∷ later) h d number =
    none_held store later h d.1 number ∙ sym (ap (λ ids. ids ++ marks_held number later) (unmarked_held number m (nat_le number m.segment.media_sequence) (no_mark store m.mark h d.0)))
