-- What is known of breaks that were entered, by their places among those that can be.
use Rattle.std.proofs.Common.{◌≡◌, ◌∙◌, ◌+◌, ℕ, ℤ, Bool, true, false, cond, not, ◌&&◌, List, [], ◌∷◌, ◌++◌, ◌⊎◌, inl, inr, length, refl, ap, sym, subst, arith, length-append}
use Rattle.std.specs.Prelude.{Option, Some, None, slice_get, find, option_map}
use Rattle.std.specs.List.{All}
use Rattle.std.proofs.lemmas.Bool.{and_parts}
use Rattle.std.proofs.lemmas.Option.{slice_get_within}
use Rattle.playlist_model.specs.LookBack.{or_earlier}
use Rattle.playlist_model.proofs.InCommons.{found_in_pushed}
use Rattle.pod_store.specs.Pods.{Pod, pod_fits, total}
use Rattle.pod_store.specs.Store.{pod_for}
use Rattle.break_finder.specs.Breaks.{Break}
use Rattle.break_finder.specs.Known.{is_this_break}
use Rattle.break_finder.specs.Entering.{EntryLimits, enters_break, enters_with, entered, id_of_break, is_within_break}
use Rattle.break_finder.specs.Entrances.{Entrance}
use Rattle.break_finder.specs.Places.{IsAt}
use Rattle.stitcher.specs.Making.{is_same_stitched_run}
use Rattle.stitcher.specs.declared.marked.MarkedSegment.{MarkedSegment as Held}
use Rattle.channel_spec.specs.Marking.{Moment, limits}
use Rattle.channel_window.specs.declared.marking.KnownBreak.{KnownBreak}
use Rattle.channel_window.specs.declared.marking.Run.{Run}
use Rattle.channel_window.specs.Inner.Terms.{AreTerms, HasKnownTerms, HasStood, IsMarkedAgain, IsTold, StoodAt, StoodWhenKnown, window_entrances}

-- ---- a known break

-- its terms are those of the mark that has its place
pub terms_at_place : (m : Moment) (k : KnownBreak) (place : ℕ) (mark : Option (List ℕ)) → HasKnownTerms m (Some k) → k.place ≡ place → IsAt (window_entrances m) place mark → AreTerms m mark k.terms
terms_at_place m k place mark has is (e, there, id) = subst (λ (o : Option (List ℕ)). AreTerms m o k.terms) (sym id) (has e (ap (slice_get (window_entrances m)) is ∙ there))

pub terms_here : (m : Moment) (k : KnownBreak) (mark : Option (List ℕ)) → IsAt (window_entrances m) k.place mark → AreTerms m mark k.terms → HasKnownTerms m (Some k)
terms_here m k mark (e, there, id) terms f g = subst (λ (o : Option (List ℕ)). AreTerms m o k.terms) (id ∙ ap (λ (x : Entrance). Some x.id) (some_is (sym there ∙ g))) terms
  where
    some_is : {A : Type 0} {a b : A} → ◌≡◌ {A = Option A} (Some a) (Some b) → a ≡ b
    some_is h = cc h

-- it stood where it was entered last
pub stood_at_place : (m : Moment) (done : List Held) (k : KnownBreak) (place : ℕ) (mark : Option (List ℕ)) → StoodWhenKnown m done k → k.place ≡ place → IsAt (window_entrances m) place mark → StoodAt done k.at mark
stood_at_place m done k place mark stood is (e, there, id) =
    (omega (arith, stood.within), λ before f. id ∙ sym (stood.mark e before (ap (slice_get (window_entrances m)) is ∙ there) f))

pub nothing_stood : (done : List Held) (count : ℕ) (mark : Option (List ℕ)) → length done ≡ count → StoodAt done count mark
nothing_stood done count mark long = (omega (arith, long), λ before f. absurd (omega (arith, long, slice_get_within done count before f)))

-- so many segments before the next one
again_from : (done : List Held) (at again : ℕ) (mark : Option (List ℕ)) → StoodAt done at mark → again + at ≡ length done → IsMarkedAgain done again mark
again_from done at again mark (within, same) is = record {
  within = omega (arith, is);
  same = λ before place e f. let here : place ≡ at = omega (arith, e, is) in same before (ap (slice_get done) (sym here) ∙ f);
}

pub not_again : (done : List Held) (mark : Option (List ℕ)) → IsMarkedAgain done 0 mark
not_again done mark = record {
  within = omega arith;
  same = λ before place e f. absurd (omega (arith, e, slice_get_within done place before f));
}

pub again_since : (done : List Held) (at again count : ℕ) (mark : Option (List ℕ)) → StoodAt done at mark → length done ≡ count → (again ≡ 0) ⊎ (again + at ≡ count) → IsMarkedAgain done again mark
again_since done at again count mark stood long (inl none) = subst (λ n. IsMarkedAgain done n mark) (sym none) (not_again done mark)
again_since done at again count mark stood long (inr is) = again_from done at again mark stood (is ∙ sym long)

-- ---- with one segment more

stood_on : (m : Moment) (done : List Held) (next : Held) (o : Option KnownBreak) → HasStood m done o → HasStood m (done ++ next ∷ []) o
stood_on m done next None h = tt
stood_on m done next (Some k) h = record {
  within = omega (arith, h.within, length-append done (next ∷ []));
  mark = λ e before f g. found_in_pushed done next k.at before g (h.mark e before f) (λ at is. absurd (omega (arith, at, h.within)));
}

pub all_stood_on : (m : Moment) (done : List Held) (next : Held) (known : List (Option KnownBreak)) → All (HasStood m done) known → All (HasStood m (done ++ next ∷ [])) known
all_stood_on m done next known all k d within = stood_on m done next _ (all k d within)

pub stood_same : (m : Moment) (xs ys : List Held) (known : List (Option KnownBreak)) → xs ≡ ys → All (HasStood m ys) known → All (HasStood m xs) known
stood_same m xs ys known e h = subst (λ (l : List Held). All (HasStood m l) known) (sym e) h

-- the break that marks the next segment stands there
pub stood_next : (m : Moment) (done : List Held) (next : Held) (k : KnownBreak) (mark : Option (List ℕ)) → k.at ≡ length done → IsAt (window_entrances m) k.place mark → next.mark ≡ mark → HasStood m (done ++ next ∷ []) (Some k)
stood_next m done next k mark at (e, there, id) is = record {
  within = omega (arith, at, length-append done (next ∷ []));
  mark = λ f before g h. found_in_pushed done next k.at before h
      (λ old. absurd (omega (arith, at, slice_get_within done k.at before old)))
      (λ same here. ap (λ (x : Held). x.mark) here ∙ (is ∙ (id ∙ ap (λ (x : Entrance). Some x.id) (some_is (sym there ∙ g)))));
}
  where
    some_is : {A : Type 0} {a b : A} → ◌≡◌ {A = Option A} (Some a) (Some b) → a ≡ b
    some_is h = cc h

-- what is known stays as it is
pub told_the_same : (m : Moment) (count : ℕ) (old new : Run) (mark : Option (List ℕ)) (again : ℕ) → again ≡ 0 → new.known.items ≡ old.known.items → IsTold m count old new mark again
told_the_same m count old new mark again none same = record {
  marked = λ done long stood. subst (λ n. IsMarkedAgain done n mark) (sym none) (not_again done mark);
  stood = λ done next long stood is. subst (All (HasStood m (done ++ next ∷ []))) (sym same) (all_stood_on m done next old.known.items stood);
}

-- ---- a break that is entered isn't that of the run before

test_step : (test : Break → Bool) (y x : Break) (rest : Option Break) (b : Bool) → test y ≡ b → (rest ≡ Some x → test x ≡ true) → cond b (Some y) rest ≡ Some x → test x ≡ true
test_step test y x rest true t rec k = let is : y ≡ x = cc in ap test (sym is) ∙ t
test_step test y x rest false t rec k = rec k

found_test : (test : Break → Bool) (xs : List Break) (x : Break) → find test xs ≡ Some x → test x ≡ true
found_test test [] x e = absurd (cc)
found_test test (y ∷ ys) x e = test_step test y x (find test ys) (test y) refl (found_test test ys x) e

not_last : (limits : EntryLimits) (instant : ℤ) (b : Break) (o : Option Pod) → enters_with limits instant b o ≡ true → is_this_break b.id limits.last ≡ false
not_last limits instant b None h = absurd (cc h)
not_last limits instant b (Some pod) h = was_not (is_this_break b.id limits.last) (and_parts (is_within_break limits instant b.said (total pod) && pod_fits limits.target_duration limits.with_init_sections pod) (not (is_this_break b.id limits.last)) h).1
  where
    was_not : (same : Bool) → not same ≡ true → same ≡ false
    was_not true h = absurd (cc h)
    was_not false h = refl

found_new : (m : Moment) (last : Option (List ℕ)) (instant : ℤ) (o : Option Break) → find (enters_break (limits m last) m.store instant) m.breaks ≡ o → is_same_stitched_run (option_map id_of_break o) last ≡ false
found_new m None instant None e = refl
found_new m (Some id) instant None e = refl
found_new m None instant (Some b) e = refl
found_new m (Some id) instant (Some b) e = not_last (limits m (Some id)) instant b (pod_for m.store b.id) (found_test (enters_break (limits m (Some id)) m.store instant) m.breaks b e)

entered_new : (m : Moment) (last : Option (List ℕ)) (instant : Option ℤ) → is_same_stitched_run (entered (limits m last) m.store m.breaks instant) last ≡ false
entered_new m None None = refl
entered_new m (Some id) None = refl
entered_new m last (Some instant) = found_new m last instant (find (enters_break (limits m last) m.store instant) m.breaks) refl

pub new_run : (m : Moment) (before last mark : Option (List ℕ)) (instant : Option ℤ) → or_earlier before last ≡ last → mark ≡ entered (limits m last) m.store m.breaks instant → is_same_stitched_run mark before ≡ false
new_run m None last None instant e is = refl
new_run m None last (Some id) instant e is = refl
new_run m (Some id) last mark instant e is = ap (is_same_stitched_run mark) e ∙ (ap (λ o. is_same_stitched_run o last) is ∙ entered_new m last instant)
