-- The new segments, marked in the order of the playlist, are those that are shown.
use Rattle.std.proofs.Common.{◌≡◌, ℕ, ◌+◌, ℤ, Bool, true, false, cond, ◌&&◌, List, [], ◌∷◌, map, drop, length, refl, ap, sym, ◌∙◌, arith}
use Rattle.std.specs.Prelude.{Option, Some, None, IfSome, IsSome, ◌==◌, is_none, option_map, find}
use mathlib.Core.List.{reverse_aux}
use Rattle.std.proofs.lemmas.Bool.{and_parts, eqb-true}
use Rattle.playlist_model.specs.Segments.{Segment}
use Rattle.pod_store.specs.Pods.{Pod}
use Rattle.pod_store.specs.Marks.{Marked, newest_mark, continues, are_one, mark_with, mark_in}
use Rattle.playlist_model.specs.LookBack.{or_earlier}
use Rattle.playlist_model.specs.Instants.{begins_at, ends_at, instants_after}
use Rattle.pod_store.specs.Store.{Entry, Store, has_id, pod_of, pod_for, has_no_pod}
use Rattle.break_finder.specs.Breaks.{Break}
use Rattle.break_finder.specs.Entering as entering
use Rattle.break_finder.specs.Entering.{is_inside, enters_break, enters_with, id_of_break}
use Rattle.stitcher.specs.StitchedSegments.{meant, IsDecided, AreDecided, KnowsRun, KnowRuns}
use Rattle.channel_spec.specs.Marking.{Moment, limits, next_mark, newest_end, continued}
use Rattle.channel_spec.specs.Kept.{marked_on, entered_with, show_on, capped, extended, length_on}
use Rattle.channel_window.specs.Marking.{Hint, is_still_inside, stays, next_id, first_hint, mark_on, capped_by, capped_in, length_before, length_after}
use Rattle.break_finder.specs.Entrances.{Entrances, entrances_in, is_within}
use Rattle.break_finder.specs.declared.spans.TimesWithin.{TimesWithin}
use Rattle.channel_window.specs.declared.marking.Run.{Run}
use Rattle.channel_window.specs.Inner.Terms.{HasItsTerms, is_window_time_among}
use Rattle.channel_window.specs.MarkingLaws.{MarksAreShown, LengthsAreKept}
use Rattle.stitcher.specs.Making.{is_same_stitched_run}
use Rattle.stitcher.specs.declared.marked.MarkedSegment.{MarkedSegment as Held}
use Rattle.channel_window.proofs.Placed.{same_run}

-- ---- marks and their IDs

inside_step : (m : Moment) (id : List ℕ) (pod : Pod) (found : Option (List ℕ)) (b : Bool) → pod_for m.store id ≡ Some pod
    → mark_in m.store (cond b (Some id) found) ≡ or_earlier (cond b (Some (record { id = id; pod = pod })) None) (mark_in m.store found)
inside_step m id pod found true e = ap (mark_with id) e
inside_step m id pod found false e = refl

stay_step : (m : Moment) (id : List ℕ) (found : Option (List ℕ)) (instant : Option ℤ) (o : Option Pod) → pod_for m.store id ≡ o
    → mark_in m.store (cond (is_still_inside m id instant o) (Some id) found) ≡ or_earlier (continued m instant (mark_with id o)) (mark_in m.store found)
stay_step m id found instant None e = refl
stay_step m id found instant (Some pod) e = inside_step m id pod found (is_inside m.breaks id instant m.tolerance pod) e

marks_agree : (m : Moment) (newest last : Option (List ℕ)) (instant : Option ℤ) → mark_in m.store (next_id m newest last instant) ≡ next_mark m (mark_in m.store newest) last instant
marks_agree m None last instant = refl
marks_agree m (Some id) last instant = stay_step m id (entering.entered (limits m last) m.store m.breaks instant) instant (pod_for m.store id) refl

-- ---- if no break is decided, none is entered

pub no_pod : (entries : List Entry) (fallback : Option Pod) → (length entries == 0 && is_none fallback) ≡ true → (id : List ℕ) → or_earlier (option_map pod_of (find (has_id id) entries)) fallback ≡ None
no_pod [] None h id = refl
no_pod [] (Some pod) h id = let k : false ≡ true = (and_parts (length {A = Entry} [] == 0) false h).1 in absurd (cc)
no_pod (e ∷ entries) fallback h id = absurd (omega (arith, eqb-true (length (e ∷ entries)) 0 (and_parts (length (e ∷ entries) == 0) (is_none fallback) h).0))

none_enters : (limits : entering.EntryLimits) (store : Store) (instant : ℤ) (breaks : List Break) → has_no_pod store ≡ true → find (enters_break limits store instant) breaks ≡ None
none_enters limits store instant [] h = refl
none_enters limits store instant (b ∷ later) h =
    ap (λ o. cond (enters_with limits instant b o) (Some b) (find (enters_break limits store instant) later)) (no_pod store.entries store.fallback h b.id)
    ∙ none_enters limits store instant later h

pub none_entered : (limits : entering.EntryLimits) (store : Store) (breaks : List Break) (instant : Option ℤ) → has_no_pod store ≡ true → entering.entered limits store breaks instant ≡ None
none_entered limits store breaks None h = refl
none_entered limits store breaks (Some instant) h = ap (option_map id_of_break) (none_enters limits store instant breaks h)

pub none_next : (m : Moment) (newest last : Option (List ℕ)) (instant : Option ℤ) → newest ≡ None → entering.entered (limits m last) m.store m.breaks instant ≡ None → next_id m newest last instant ≡ None
none_next m None last instant e none = none
none_next m (Some id) last instant e none = absurd (cc)

-- at quiet instants after a segment without a mark
pub quiet_next : (m : Moment) (run : Run) (instant : Option ℤ) → HasItsTerms m run → run.before ≡ None → is_window_time_among run.quiet instant ≡ true → next_id m run.before run.entered instant ≡ None
quiet_next m run instant r e h = none_next m run.before run.entered instant e (r.quiet instant h)

-- those around an instant
pub quiet_then : (m : Moment) (e : Entrances) (times : Option TimesWithin) (last : Option (List ℕ))
    → e ≡ record { tolerance = m.tolerance; found = entrances_in m.target_duration m.with_init_sections m.store m.breaks }
    → IfSome times (λ t. (k : entering.EntryLimits) (store : Store) (breaks : List Break) (i : ℤ) → k.tolerance ≡ e.tolerance → k.last ≡ last
    → e.found ≡ entrances_in k.target_duration k.with_init_sections store breaks → is_within t.from t.to i ≡ true → entering.entered k store breaks (Some i) ≡ None)
    → (instant : Option ℤ) → is_window_time_among times instant ≡ true → entering.entered (limits m last) m.store m.breaks instant ≡ None
quiet_then m e None last is h instant among = absurd (cc)
quiet_then m e (Some times) last is h None among = absurd (cc)
quiet_then m e (Some times) last is h (Some i) among = h (limits m last) m.store m.breaks i (sym (ap (λ (x : Entrances). x.tolerance) is)) refl (ap (λ (x : Entrances). x.found) is) among

-- ---- each mark is decided

test_step : (test : Break → Bool) (y x : Break) (rest : Option Break) (b : Bool) → test y ≡ b → (rest ≡ Some x → test x ≡ true) → cond b (Some y) rest ≡ Some x → test x ≡ true
test_step test y x rest true t rec k = let is : y ≡ x = cc in ap test (sym is) ∙ t
test_step test y x rest false t rec k = rec k

found_test : (test : Break → Bool) (xs : List Break) (x : Break) → find test xs ≡ Some x → test x ≡ true
found_test test [] x e = absurd (cc)
found_test test (y ∷ ys) x e = test_step test y x (find test ys) (test y) refl (found_test test ys x) e

some_pod : (m : Moment) (last : Option (List ℕ)) (instant : ℤ) (b : Break) (o : Option Pod) → enters_with (limits m last) instant b o ≡ true → IsSome o
some_pod m last instant b None e = absurd (cc)
some_pod m last instant b (Some pod) e = refl

found_decided : (m : Moment) (last : Option (List ℕ)) (instant : ℤ) (o : Option Break) → find (enters_break (limits m last) m.store instant) m.breaks ≡ o → IsDecided m.store (option_map id_of_break o)
found_decided m last instant None e = tt
found_decided m last instant (Some b) e = some_pod m last instant b (pod_for m.store b.id) (found_test (enters_break (limits m last) m.store instant) m.breaks b e)

entered_decided : (m : Moment) (last : Option (List ℕ)) (instant : Option ℤ) → IsDecided m.store (entering.entered (limits m last) m.store m.breaks instant)
entered_decided m last None = tt
entered_decided m last (Some instant) = found_decided m last instant (find (enters_break (limits m last) m.store instant) m.breaks) refl

either_decided : (store : Store) (b : Bool) (x y : Option (List ℕ)) → IsDecided store x → IsDecided store y → IsDecided store (cond b x y)
either_decided store true x y h k = h
either_decided store false x y h k = k

next_decided : (m : Moment) (newest last : Option (List ℕ)) (instant : Option ℤ) → IsDecided m.store newest → IsDecided m.store (next_id m newest last instant)
next_decided m newest last instant h = either_decided m.store (stays m newest instant) newest (entering.entered (limits m last) m.store m.breaks instant) h (entered_decided m last instant)

all_decided : (m : Moment) (newest last : Option (List ℕ)) (hints : List Hint) (segments : List Segment) (instants : List (Option ℤ)) → IsDecided m.store newest → AreDecided m.store (mark_on m newest last hints segments instants)
all_decided m newest last hints [] instants h = tt
all_decided m newest last hints (s ∷ later) [] h = tt
all_decided m newest last hints (s ∷ later) (begun ∷ instants) h =
    let here = next_decided m newest last begun h in
    (here, all_decided m (next_id m newest last begun) (or_earlier (next_id m newest last begun) last) (drop 1 hints) later instants here)

-- ---- each knows its run

knows_run : (newest : Option (List ℕ)) (h : Held) → h.goes_on ≡ is_same_stitched_run h.mark newest → KnowsRun newest h
knows_run None h e = tt
knows_run (Some id) h e = e

pub know_runs : (m : Moment) (newest last : Option (List ℕ)) (hints : List Hint) (segments : List Segment) (instants : List (Option ℤ)) → KnowRuns newest (mark_on m newest last hints segments instants)
know_runs m newest last hints [] instants = tt
know_runs m newest last hints (s ∷ later) [] = tt
know_runs m newest last hints (s ∷ later) (begun ∷ instants) =
    let id = next_id m newest last begun in
    (knows_run newest (record { segment = s; instant = begun; mark = id; goes_on = is_same_stitched_run id newest; in_common = (first_hint hints).0; again = (first_hint hints).1 }) refl, know_runs m id (or_earlier id last) (drop 1 hints) later instants)

pod_entered : (id : List ℕ) (last : Option (List ℕ)) (o : Option Pod) → IsSome o → entered_with (mark_with id o) last ≡ Some id
pod_entered id last None h = absurd (cc)
pod_entered id last (Some pod) h = refl

entered_same : (store : Store) (o last : Option (List ℕ)) → IsDecided store o → entered_with (mark_in store o) last ≡ or_earlier o last
entered_same store None last h = refl
entered_same store (Some id) last h = pod_entered id last (pod_for store id) h

-- ---- all segments

shown_all : (m : Moment) (newest last : Option (List ℕ)) (hints : List Hint) (before : List Marked) (segments : List Segment) → IsDecided m.store newest → newest_mark before ≡ mark_in m.store newest
    → reverse_aux (map (meant m.store) (mark_on m newest last hints segments (instants_after (newest_end before) segments))) before ≡ show_on m before last segments
shown_all m newest last hints before [] h e = refl
shown_all m newest last hints before (s ∷ later) h e =
    let begun = begins_at (newest_end before) s later in
    let id = next_id m newest last begun in
    let here = marked_on m before last s later in
    let mark : mark_in m.store id ≡ here.mark = marks_agree m newest last begun ∙ ap (λ o. next_mark m o last begun) (sym e) in
    let same : meant m.store (record { segment = s; instant = begun; mark = id; goes_on = is_same_stitched_run id newest; in_common = (first_hint hints).0; again = (first_hint hints).1 }) ≡ here = ap (λ o. record { segment = s; instant = begun; mark = o }) mark in
    let d = next_decided m newest last begun h in
    ap (λ x. reverse_aux (map (meant m.store) (mark_on m id (or_earlier id last) (drop 1 hints) later (instants_after (ends_at begun s.duration) later))) (x ∷ before)) same
    ∙ (shown_all m id (or_earlier id last) (drop 1 hints) (here ∷ before) later d (sym mark)
    ∙ ap (λ l. show_on m (here ∷ before) l later) (sym (entered_same m.store id last d) ∙ ap (λ o. entered_with o last) mark))

pub marks_are_shown : MarksAreShown
marks_are_shown m newest last hints before segments h e = (shown_all m newest last hints before segments h e, all_decided m newest last hints segments (instants_after (newest_end before) segments) h)

-- ---- how long the newest run has lasted

pod_capped : (id : List ℕ) (o : Option Pod) (n : ℕ) → capped_by o n ≡ capped (mark_with id o) n
pod_capped id None n = refl
pod_capped id (Some pod) n = refl

capped_same : (store : Store) (o : Option (List ℕ)) (n : ℕ) → capped_in store o n ≡ capped (mark_in store o) n
capped_same store None n = refl
capped_same store (Some id) n = pod_capped id (pod_for store id) n

pub lengths_are_kept : LengthsAreKept
lengths_are_kept m newest last hints before so_far [] h e = refl
lengths_are_kept m newest last hints before so_far (s ∷ later) h e =
    let begun = begins_at (newest_end before) s later in
    let id = next_id m newest last begun in
    let here = marked_on m before last s later in
    let mark : mark_in m.store id ≡ here.mark = marks_agree m newest last begun ∙ ap (λ o. next_mark m o last begun) (sym e) in
    let d = next_decided m newest last begun h in
    let goes_on : is_same_stitched_run id newest ≡ continues here before = sym (ap (are_one here.mark) e ∙ ap (λ o. are_one o (mark_in m.store newest)) (sym mark) ∙ same_run m.store id newest d h) in
    let one : capped_in m.store id (s.duration + length_before id newest so_far) ≡ extended here before so_far =
    capped_same m.store id (s.duration + length_before id newest so_far)
    ∙ ap (λ o. capped o (s.duration + length_before id newest so_far)) mark ∙ ap (λ b. capped here.mark (s.duration + cond b so_far 0)) goes_on in
    ap (λ n. length_after m.store id n (mark_on m id (or_earlier id last) (drop 1 hints) later (instants_after (ends_at begun s.duration) later))) one
    ∙ (lengths_are_kept m id (or_earlier id last) (drop 1 hints) (here ∷ before) (extended here before so_far) later d (sym mark)
    ∙ ap (λ l. length_on m (here ∷ before) l (extended here before so_far) later) (sym (entered_same m.store id last d) ∙ ap (λ o. entered_with o last) mark))
