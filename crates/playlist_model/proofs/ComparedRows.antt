-- Standings that are compared with those before them.
use Rattle.std.proofs.Common.{◌≡◌, ◌∙◌, ◌+◌, ◌-◌, ◌<◌, ℕ, List, [], ◌∷◌, ◌++◌, refl, ap, sym, subst, arith, Some, length}
use Rattle.std.specs.Prelude.{Option, map}
use Rattle.std.specs.List.{slice_get}
use Rattle.std.proofs.lemmas.Option.{slice_get_within, get_or_from_slice_get}
use Rattle.playlist_model.specs.declared.Key.{Key}
use Rattle.playlist_model.specs.declared.InitSection.{InitSection}
use Rattle.playlist_model.specs.declared.in_common.InCommon.{InCommon}
use Rattle.playlist_model.specs.declared.places.Place.{Place}
use Rattle.playlist_model.specs.declared.standings.Standing.{Standing}
use Rattle.playlist_model.specs.EffectiveKeys.{effective_key}
use Rattle.playlist_model.specs.InCommon.{IsInCommon}
use Rattle.playlist_model.specs.Rows.{AreCompared, IsComparedWithLast, IsLastOf, no_standing, row_standing}
use Rattle.playlist_model.proofs.InCommons.{common_under_numbers, found_in_pushed, last_of_pushed}

some_is : {A : Type 0} {a b : A} → ◌≡◌ {A = Option A} (Some a) (Some b) → a ≡ b
some_is h = cc h

not_both : (place count : ℕ) → place ≡ count → place + 1 ≡ count → ⊥
not_both place count e f = omega (arith, e, f)

not_within : (place count : ℕ) → place ≡ count → place + 1 < count → ⊥
not_within place count e f = omega (arith, e, f)

before_last : (old : List Standing) (z before : Standing) (place : ℕ) → slice_get (old ++ z ∷ []) place ≡ Some before → place + 1 ≡ length old → slice_get old (length old - 1) ≡ Some before
before_last old z before place f at = found_in_pushed old z place before f
    (λ found. let same : length old - 1 ≡ place = omega (arith, at) in ap (slice_get old) same ∙ found)
    (λ past _. absurd (not_both place (length old) past at))

-- those stay compared to which one is put that is compared with the last of them
pub compared_on : (old : List Standing) (z : Standing) → AreCompared old → IsComparedWithLast old z.in_common z.keys z.init_section → IsInCommon z.whole z.keys z.init_section z.keys z.init_section → AreCompared (old ++ z ∷ [])
compared_on old z c l w = record {
  with_before = λ place before now f g. found_in_pushed old z (place + 1) now g
      (λ found. c.with_before place before now (earlier place before now f found) found)
      (λ past is. subst (λ now. IsInCommon now.in_common before.keys before.init_section now.keys now.init_section) (sym is) (l.with_last before (before_last old z before place f past)));
  whole = λ place now f. found_in_pushed old z place now f
      (λ found. c.whole place now found)
      (λ past is. subst (λ now. IsInCommon now.whole now.keys now.init_section now.keys now.init_section) (sym is) w);
}
  where
    earlier : (place : ℕ) (before now : Standing) → slice_get (old ++ z ∷ []) place ≡ Some before → slice_get old (place + 1) ≡ Some now → slice_get old place ≡ Some before
    earlier place before now f found = found_in_pushed old z place before f (λ there. there)
        (λ past _. absurd (not_within place (length old) past (slice_get_within old (place + 1) now found)))

pub put_compared : (old new : List Standing) (z : Standing) (common : InCommon) (keys : List Key) (init_section : Option InitSection) → new ≡ old ++ z ∷ [] → z.in_common ≡ common → z.keys ≡ keys → z.init_section ≡ init_section
    → AreCompared old → IsComparedWithLast old common keys init_section → IsInCommon z.whole keys init_section keys init_section → AreCompared new
put_compared old new z common keys init_section e f g h c l w = subst AreCompared (sym e) (compared_on old z c
    (subst (λ k. IsComparedWithLast old z.in_common k z.init_section) (sym g) (subst (λ s. IsComparedWithLast old z.in_common keys s) (sym h) (subst (λ i. IsComparedWithLast old i keys init_section) (sym f) l)))
    (subst (λ k. IsInCommon z.whole k z.init_section k z.init_section) (sym g) (subst (λ s. IsInCommon z.whole keys s keys s) (sym h) w)))

pub put_last : (old new : List Standing) (z : Standing) (keys : List Key) (init_section : Option InitSection) (uri_front : Place) → new ≡ old ++ z ∷ [] → z.keys ≡ keys → z.init_section ≡ init_section → z.uri_front ≡ uri_front → IsLastOf new keys init_section uri_front
put_last old new z keys init_section uri_front e g h f =
    record { last = z; found = ap (λ l. slice_get l (length l - 1)) e ∙ last_of_pushed old z; keys_are = g; init_section_is = h; uri_front_is = f }

-- the one that was put is the last
pub last_is : (old : List Standing) (z : Standing) → IsLastOf (old ++ z ∷ []) z.keys z.init_section z.uri_front
last_is old z = record { last = z; found = last_of_pushed old z; keys_are = refl; init_section_is = refl; uri_front_is = refl }

-- what is in force is compared with the last one, if that one has it
pub compared_with_itself : (standings : List Standing) (common : InCommon) (keys : List Key) (init_section : Option InitSection) (uri_front : Place) → IsLastOf standings keys init_section uri_front
    → IsInCommon common keys init_section keys init_section → IsComparedWithLast standings common keys init_section
compared_with_itself standings common keys init_section uri_front l whole = record {
  with_last = λ last found.
      let it : last ≡ l.last = some_is (sym found ∙ l.found) in
      let keys_are : keys ≡ last.keys = sym (ap {A = Standing} (λ s. s.keys) it ∙ l.keys_are) in
      let section_is : init_section ≡ last.init_section = sym (ap {A = Standing} (λ s. s.init_section) it ∙ l.init_section_is) in
      subst (λ k. IsInCommon common k last.init_section keys init_section) keys_are (subst (λ s. IsInCommon common keys s keys init_section) section_is whole);
  own = whole.own_keys_are;
}

-- what was compared with a last one is compared with another that is equal
pub compared_with_equal : (old new : List Standing) (common : InCommon) (keys : List Key) (init_section : Option InitSection) (uri_front : Place) → IsLastOf old keys init_section uri_front → IsLastOf new keys init_section uri_front
    → IsComparedWithLast old common keys init_section → IsComparedWithLast new common keys init_section
compared_with_equal old new common keys init_section uri_front l m c = record {
  with_last = λ last found.
      let it : last ≡ m.last = some_is (sym found ∙ m.found) in
      let keys_are : l.last.keys ≡ last.keys = l.keys_are ∙ sym (ap {A = Standing} (λ s. s.keys) it ∙ m.keys_are) in
      let section_is : l.last.init_section ≡ last.init_section = l.init_section_is ∙ sym (ap {A = Standing} (λ s. s.init_section) it ∙ m.init_section_is) in
      subst (λ k. IsInCommon common k last.init_section keys init_section) keys_are (subst (λ s. IsInCommon common l.last.keys s keys init_section) section_is (c.with_last l.last l.found));
  own = c.own;
}

-- ---- rows

standing_is : (standings : List Standing) (place : ℕ) (z : Standing) → slice_get standings place ≡ Some z → z ≡ row_standing standings place
standing_is standings place z found = sym (get_or_from_slice_get standings place z no_standing found)

-- two rows under one standing
pub common_of_same : (standings : List Standing) (n m place other : ℕ) (z : Standing) → slice_get standings place ≡ Some z → place ≡ other → AreCompared standings
    → IsInCommon z.whole (map (effective_key n) (row_standing standings other).keys) (row_standing standings other).init_section (map (effective_key m) (row_standing standings place).keys) (row_standing standings place).init_section
common_of_same standings n m place other z found same c =
    let at = standing_is standings place z found in
    let both : IsInCommon z.whole (map (effective_key n) z.keys) z.init_section (map (effective_key m) z.keys) z.init_section = common_under_numbers n m z.whole z.keys z.keys z.init_section z.init_section (c.whole place z found) in
    subst (λ i. IsInCommon z.whole (map (effective_key n) (row_standing standings i).keys) (row_standing standings i).init_section (map (effective_key m) (row_standing standings place).keys) (row_standing standings place).init_section) same
    (subst (λ s. IsInCommon z.whole (map (effective_key n) s.keys) s.init_section (map (effective_key m) s.keys) s.init_section) at both)

-- two rows under standings that follow each other
pub common_of_next : (standings : List Standing) (n m place other : ℕ) (z y : Standing) → slice_get standings place ≡ Some z → slice_get standings other ≡ Some y → place ≡ other + 1 → AreCompared standings
    → IsInCommon z.in_common (map (effective_key n) (row_standing standings other).keys) (row_standing standings other).init_section (map (effective_key m) (row_standing standings place).keys) (row_standing standings place).init_section
common_of_next standings n m place other z y found before next c =
    let here = common_under_numbers n m z.in_common y.keys z.keys y.init_section z.init_section (c.with_before other y z before (ap (slice_get standings) (sym next) ∙ found)) in
    subst (λ s. IsInCommon z.in_common (map (effective_key n) (row_standing standings other).keys) (row_standing standings other).init_section (map (effective_key m) s.keys) s.init_section) (standing_is standings place z found)
    (subst (λ s. IsInCommon z.in_common (map (effective_key n) s.keys) s.init_section (map (effective_key m) z.keys) z.init_section) (standing_is standings other y before) here)
