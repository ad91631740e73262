use Rattle.std.proofs.Common.{◌≡◌, ◌∙◌, ◌==◌, ◌<◌, ℕ, Bool, true, false, refl, ap, sym, arith, w16}
use Rattle.std.specs.Int.{bit_at}
use Rattle.std.proofs.lemmas.Bool.{eqb-true, eqb-false, eq-eqb}
use Rattle.std.proofs.lemmas.Nat.Bits.{bit_at_clear_same, bit_at_clear_other, bit_at_ones, bit_at_ones_above}
use Rattle.playlist_model.specs.declared.in_common.KeyPlaces.{KeyPlaces}
use Rattle.playlist_model.specs.InCommon.{all_places, is_place_of}
use Rattle.playlist_model.proofs.in_common.KeyPlaces.all_except.Goals as goal

never : (places : KeyPlaces) (place other : ℕ) (same : Bool) → bit_at places.bits place ≡ 0 → is_place_of places other ≡ true → (other == place) ≡ same → same ≡ false
never places place other false cleared is same_is = refl
never places place other true cleared is same_is =
    let one : bit_at places.bits place ≡ 1 = ap (bit_at places.bits) (sym (eqb-true other place same_is)) ∙ eqb-true _ _ is in
    absurd (zero_one (bit_at places.bits place) cleared one)
  where
    zero_one : (n : ℕ) → n ≡ 0 → n ≡ 1 → ⊥
    zero_one n e f = omega (arith, e, f)

is_one_of_all : (place : ℕ) → place < 16 → is_place_of all_places place ≡ true
is_one_of_all place within = eq-eqb _ _ (bit_at_ones 16 place within)

pub returns-then-place-ge16-clause-except : goal.returns-then-place-ge16-clause-except
returns-then-place-ge16-clause-except c = λ other h. never c.all.result c.args.place other _ (ap (λ places. bit_at places.bits c.args.place) c.all.ensures.value ∙ bit_at_ones_above 16 c.args.place c.if-place-ge16.true) h refl

pub returns-then-place-ge16-clause-others : goal.returns-then-place-ge16-clause-others
returns-then-place-ge16-clause-others c = λ other within apart. ap (λ places. is_place_of places other) c.all.ensures.value ∙ is_one_of_all other within

pub returns-clause-except : goal.returns-clause-except
returns-clause-except c = λ other h. never _ c.args.place other _ (bit_at_clear_same w16 65535 c.args.place c.if-place-ge16.false) h refl

pub returns-clause-others : goal.returns-clause-others
returns-clause-others c = λ other within apart. eq-eqb _ _ (bit_at_clear_other w16 65535 c.args.place c.if-place-ge16.false other within (eqb-false other c.args.place apart) ∙ bit_at_ones 16 other within)
