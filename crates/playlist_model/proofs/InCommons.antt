-- What segments have in common, and what that says of them under their numbers.
use Rattle.std.proofs.Common.{◌≡◌, ◌∙◌, ◌==◌, ◌+◌, ◌-◌, ◌<◌, ℕ, zero, suc, Bool, true, false, List, [], ◌∷◌, ◌++◌, refl, ap, sym, arith, Some, None, length, length-append}
use Rattle.std.specs.Prelude.{Option, map, min, option_map, bit_and}
use Rattle.std.specs.List.{slice_get}
use Rattle.std.specs.Int.{bit_at}
use Rattle.std.proofs.lemmas.Nat.Bits.{bit_at_and, bit_at-lt}
use Rattle.std.proofs.lemmas.Bool.{eqb-true, eq-eqb}
use Rattle.std.proofs.lemmas.Option.{slice_get-map}
use Rattle.playlist_model.specs.declared.Key.{Key}
use Rattle.playlist_model.specs.declared.InitSection.{InitSection}
use Rattle.playlist_model.specs.declared.in_common.InCommon.{InCommon}
use Rattle.playlist_model.specs.EffectiveKeys.{effective_key}
use Rattle.playlist_model.specs.InCommon.{IsInCommon, key_at, without_iv}
use Rattle.playlist_model.proofs.KeysUnder.{supplied, takes_iv}

pub bits_of_both : (a b i : ℕ) → (bit_at (bit_and a b) i == 1) ≡ true → ((bit_at a i == 1) ≡ true) × ((bit_at b i == 1) ≡ true)
bits_of_both a b i h =
    let least : min (bit_at a i) (bit_at b i) ≡ 1 = sym (bit_at_and a b i) ∙ eqb-true _ _ h in
    let below = bit_at-lt a i in
    let other_below = bit_at-lt b i in
    (eq-eqb _ _ (first _ _ least below), eq-eqb _ _ (second _ _ least other_below))
  where
    first : (x y : ℕ) → min x y ≡ 1 → x < 2 → x ≡ 1
    first x y h l = omega (arith, h, l)

    second : (x y : ℕ) → min x y ≡ 1 → y < 2 → y ≡ 1
    second x y h l = omega (arith, h, l)

-- ---- keys under numbers

iv_apart : (b : Bool) (n : ℕ) (k : Key) → without_iv (supplied b n k) ≡ without_iv k
iv_apart true n k = refl
iv_apart false n k = refl

map_some : (n : ℕ) (found : Option Key) → option_map without_iv (option_map (effective_key n) found) ≡ option_map without_iv found
map_some n None = refl
map_some n (Some k) = ap Some (iv_apart (takes_iv k) n k)

pub key_under_number : (n place : ℕ) (keys : List Key) → key_at place (map (effective_key n) keys) ≡ key_at place keys
key_under_number n place keys = ap (option_map without_iv) (slice_get-map (effective_key n) keys place) ∙ map_some n (slice_get keys place)

-- what keys have in common, they have in common under any numbers
pub common_under_numbers : (n m : ℕ) (common : InCommon) (before now : List Key) (last init_section : Option InitSection) → IsInCommon common before last now init_section
    → IsInCommon common (map (effective_key n) before) last (map (effective_key m) now) init_section
common_under_numbers n m common before now last init_section h = record {
  keys_are = λ place is. key_under_number n place before ∙ h.keys_are place is ∙ sym (key_under_number m place now);
  init_section_is = h.init_section_is;
  own_keys_are = λ place is. key_under_number m place now ∙ h.own_keys_are place is;
  init_section_keys_are = h.init_section_keys_are;
  none_before = h.none_before;
}

-- ---- a list with one more

pub found_in_pushed : {X R : Type 0} (xs : List X) (z : X) (i : ℕ) (x : X) → slice_get (xs ++ z ∷ []) i ≡ Some x → (slice_get xs i ≡ Some x → R) → (i ≡ length xs → x ≡ z → R) → R
found_in_pushed [] z zero x h old new = new refl (sym (same h))
  where
    same : {X : Type 0} {x y : X} → ◌≡◌ {A = Option X} (Some x) (Some y) → x ≡ y
    same e = cc e
found_in_pushed [] z (suc i) x h old new = absurd (cc h)
found_in_pushed (y ∷ xs) z zero x h old new = old h
found_in_pushed (y ∷ xs) z (suc i) x h old new = found_in_pushed xs z i x h old (λ e f. new (ap suc e) f)

pub last_of_pushed : {X : Type 0} (xs : List X) (z : X) → slice_get (xs ++ z ∷ []) (length (xs ++ z ∷ []) - 1) ≡ Some z
last_of_pushed xs z =
    let l : length (xs ++ z ∷ []) ≡ length xs + 1 = length-append xs (z ∷ []) in
    let place : length (xs ++ z ∷ []) - 1 ≡ length xs = omega (arith, l) in
    ap (slice_get (xs ++ z ∷ [])) place ∙ at_end xs z
  where
    at_end : {X : Type 0} (xs : List X) (z : X) → slice_get (xs ++ z ∷ []) (length xs) ≡ Some z
    at_end [] z = refl
    at_end (x ∷ xs) z = at_end xs z
