-- What holds of a break that is entered.
use Rattle.std.proofs.Common.{◌≡◌, ℕ, Bool, true, false, cond, not, List, [], ◌∷◌, refl, ap, sym, ◌∙◌, arith}
use Rattle.std.specs.Prelude.{Option, Some, None, IsSome, option_map, ℤ, find}
use Rattle.pod_store.specs.Pods.{Pod, pod_fits}
use Rattle.pod_store.specs.Marks.{Mark, mark_with, mark_in}
use Rattle.pod_store.specs.Store.{pod_for}
use Rattle.break_finder.specs.Breaks.{Break, break_of}
use Rattle.break_finder.specs.Known.{is_this_break}
use Rattle.break_finder.specs.Entering.{enters_break, enters_with, id_of_break}
use Rattle.break_finder.proofs.Carried.{same_bytes}
use Rattle.channel_spec.specs.Marking.{Moment, limits, entered}

pub record IsEntry (m : Moment) (last : Option (List ℕ)) (f : Mark) : Type 0 where
  pub known : IsSome (break_of m.breaks f.id)
  pub decided : pod_for m.store f.id ≡ Some f.pod
  pub fits : pod_fits m.target_duration m.with_init_sections f.pod ≡ true
  pub other : is_this_break f.id last ≡ false

unfoldable pub IsEntered : Moment → Option (List ℕ) → Option Mark → Type 0
IsEntered m last None = Unit {0}
IsEntered m last (Some f) = IsEntry m last f

test_step : {A : Type 0} (test : A → Bool) (y x : A) (rest : Option A) (b : Bool) → test y ≡ b → (rest ≡ Some x → test x ≡ true) → cond b (Some y) rest ≡ Some x → test x ≡ true
test_step test y x rest true t rec k = let is : y ≡ x = cc in ap test (sym is) ∙ t
test_step test y x rest false t rec k = rec k

found_test : {A : Type 0} (test : A → Bool) (xs : List A) (x : A) → find test xs ≡ Some x → test x ≡ true
found_test test [] x e = absurd (cc)
found_test test (y ∷ ys) x e = test_step test y x (find test ys) (test y) refl (found_test test ys x) e

after : (id : List ℕ) (b : Break) (rest : List Break) → IsSome (break_of rest id) → IsSome (break_of (b ∷ rest) id)
after id b rest h = grind arith

here : (y : Break) (ys : List Break) → IsSome (break_of (y ∷ ys) y.id)
here y ys = rw (same_bytes y.id) refl

known_step : (y b : Break) (ys : List Break) (rest : Option Break) (t : Bool) → (rest ≡ Some b → IsSome (break_of ys b.id)) → cond t (Some y) rest ≡ Some b → IsSome (break_of (y ∷ ys) b.id)
known_step y b ys rest t rec k = grind (arith, here, after)

found_known : (test : Break → Bool) (breaks : List Break) (b : Break) → find test breaks ≡ Some b → IsSome (break_of breaks b.id)
found_known test [] b e = absurd (cc)
found_known test (y ∷ ys) b e = known_step y b ys (find test ys) (test y) (found_known test ys b) e

turned : (b : Bool) → not b ≡ true → b ≡ false
turned true e = absurd (cc)
turned false e = refl

pod_step : (m : Moment) (instant : ℤ) (last : Option (List ℕ)) (b : Break) → IsSome (break_of m.breaks b.id) → (o : Option Pod) → pod_for m.store b.id ≡ o
    → enters_with (limits m last) instant b o ≡ true → IsEntered m last (mark_with b.id o)
unfolding IsEntered
pod_step m instant last b k o e t = grind arith

break_step : (m : Moment) (instant : ℤ) (last : Option (List ℕ)) (o : Option Break) → find (enters_break (limits m last) m.store instant) m.breaks ≡ o
    → IsEntered m last (mark_in m.store (option_map id_of_break o))
unfolding IsEntered
break_step m instant last o e = grind (arith, pod_step, found_known, found_test)

-- a break that is entered is known, decided and fitting, and isn't the last one
pub entered_is : (m : Moment) (instant : Option ℤ) (last : Option (List ℕ)) → IsEntered m last (entered m instant last)
unfolding IsEntered
entered_is m instant last = grind (arith, break_step)
