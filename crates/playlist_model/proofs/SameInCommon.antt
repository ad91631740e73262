-- Keys that are the same but for their initialisation vectors.
use Rattle.std.proofs.Common.{◌≡◌, ◌∙◌, ◌+◌, ℕ, suc, Bool, true, false, List, ◌∷◌, refl, ap, sym, subst, Some, arith}
use Rattle.std.specs.Prelude.{Option, ◌&&◌}
use Rattle.std.proofs.lemmas.Slice.Eq.{bytes_eq-Decides}
use Rattle.playlist_model.specs.declared.Key.{Key}
use Rattle.playlist_model.specs.declared.in_common.KeyPlaces.{KeyPlaces}
use Rattle.playlist_model.specs.Same.{same_key, same_option, same_number}
use Rattle.playlist_model.specs.InCommon.{AreSameAt, is_place_of, key_at, without_iv}

and_all : (f m u i o : Bool) → f ≡ true → m ≡ true → u ≡ true → o ≡ true → i ≡ (f && m && u && i && o)
and_all true true true true true a b c d = refl
and_all true true true false true a b c d = refl
and_all f m u i o a b c d = cc

-- of such keys the vectors decide
pub same_by_iv : (j k : Key) → without_iv j ≡ without_iv k → same_option same_number j.iv k.iv ≡ same_key j k
same_by_iv j k e =
    and_all _ _ _ _ _ ((bytes_eq-Decides j.format k.format).1 (ap {A = Key} (λ x. x.format) e)) ((bytes_eq-Decides j.method k.method).1 (ap {A = Key} (λ x. x.method) e))
    ((bytes_eq-Decides j.uri k.uri).1 (ap {A = Key} (λ x. x.uri) e)) ((bytes_eq-Decides j.other_attributes k.other_attributes).1 (ap {A = Key} (λ x. x.other_attributes) e))

some_is : {A : Type 0} {a b : A} → ◌≡◌ {A = Option A} (Some a) (Some b) → a ≡ b
some_is h = cc h

first_is_same : (places : KeyPlaces) (j k : Key) (js ks : List Key) → AreSameAt places (j ∷ js) (k ∷ ks) → is_place_of places 0 ≡ true → without_iv j ≡ without_iv k
first_is_same places j k js ks h is = some_is (h 0 is)

later_are_same : (places later : KeyPlaces) (j k : Key) (js ks : List Key) → ((place : ℕ) → is_place_of later place ≡ is_place_of places (place + 1)) → AreSameAt places (j ∷ js) (k ∷ ks) → AreSameAt later js ks
later_are_same places later j k js ks shifted h = λ place is. at place (h (place + 1) (sym (shifted place) ∙ is))
  where
    at : (place : ℕ) → key_at (place + 1) (j ∷ js) ≡ key_at (place + 1) (k ∷ ks) → key_at place js ≡ key_at place ks
    at place e = let next : place + 1 ≡ suc place = omega arith in sym (ap (λ p. key_at p (j ∷ js)) next) ∙ e ∙ ap (λ p. key_at p (k ∷ ks)) next

pub first_of_walk : (places : KeyPlaces) (one other js ks : List Key) (j k : Key) → one ≡ j ∷ js → other ≡ k ∷ ks → AreSameAt places one other → is_place_of places 0 ≡ true → without_iv j ≡ without_iv k
first_of_walk places one other js ks j k e f h is = first_is_same places j k js ks (subst (λ l. AreSameAt places l (k ∷ ks)) e (subst (AreSameAt places one) f h)) is

pub later_of_walk : (places later : KeyPlaces) (one other js ks : List Key) (j k : Key) → one ≡ j ∷ js → other ≡ k ∷ ks → ((place : ℕ) → is_place_of later place ≡ is_place_of places (place + 1)) → AreSameAt places one other → AreSameAt later js ks
later_of_walk places later one other js ks j k e f shifted h = later_are_same places later j k js ks shifted (subst (λ l. AreSameAt places l (k ∷ ks)) e (subst (AreSameAt places one) f h))
