-- The keys in force, and the initialisation section (RFC 8216, sections 4.3.2.4 and 4.3.2.5).
use Rattle.std.proofs.Common.{◌≡◌, ℕ, Bool, true, false, cond, List, [], ◌∷◌, map, refl, arith}
use Rattle.std.specs.List.{list_all}
use Rattle.std.proofs.lemmas.Bool.{and_from, and_parts}
use Rattle.std.specs.Ordering.{nat_cmp, is_lt}
use Rattle.std.specs.Cmp.Lexicographic.{slice_cmp}
use Rattle.playlist_model.specs.declared.Key.{Key}
use Rattle.playlist_model.specs.Said.{Said, no_keys, key, init_section}
use Rattle.playlist_model.specs.EffectiveKeys.{effective_key}
use Rattle.playlist_model.specs.LookBack.{without_format, is_before, insert_key, keys_at, are_sorted, init_section_at}
use Rattle.playlist_model.proofs.ListTests.{all_filter}
use Rattle.playlist_model.proofs.KeyOrder.{keys_are_sorted}
use Rattle.writable.specs.Fitting.{if_some, iv_is_writable, key_is_writable, keys_are_writable, writable_key_states_iv, effective_keys_fit, init_section_fits}
use Rattle.playlist_write.specs.WellFormed.{is_well_formed_number}
use Rattle.read_is_writable.proofs.Lines.{is_fit, all_good, all_parts, good_parts, all_fit}

module _ (p : Key → Bool) where
  inserted : (k : Key) (keys : List Key) → p k ≡ true → list_all p keys ≡ true → list_all p (insert_key k keys) ≡ true
  inserted k [] h g = and_from _ _ h refl
  inserted k (j ∷ keys) h g =
      let a = and_parts (p j) (list_all p keys) g in step (is_before k j) j keys (insert_key k keys) a.0 a.1 (inserted k keys h a.1)
    where
      step : (b : Bool) (j : Key) (keys with : List Key) → p j ≡ true → list_all p keys ≡ true → list_all p with ≡ true → list_all p (cond b (k ∷ j ∷ keys) (j ∷ with)) ≡ true
      step true j keys with x y z = and_from _ _ h (and_from _ _ x y)
      step false j keys with x y z = and_from _ _ x z

  -- the keys in force pass a test that each key passes that is said
  pub keys_pass : (q : Said → Bool) (said : List Said) → ((k : Key) → q (key k) ≡ true → p k ≡ true) → list_all q said ≡ true → list_all p (keys_at said) ≡ true
  keys_pass q [] f h = refl
  keys_pass q (no_keys ∷ before) f h = refl
  keys_pass q (key k ∷ before) f h =
      let a = and_parts (q (key k)) (list_all q before) h in
      inserted k (without_format k.format (keys_at before)) (f k a.0) (all_filter p _ (keys_at before) (keys_pass q before f a.1))
  keys_pass q (said ∷ before) f h = keys_pass q before f (and_parts (q said) (list_all q before) h).1

all_fit_keys : (said : List Said) → list_all is_fit said ≡ true → list_all key_is_writable (keys_at said) ≡ true
all_fit_keys said h = keys_pass key_is_writable is_fit said (λ k g. g) h

pub keys_are : (said : List Said) → list_all is_fit said ≡ true → keys_are_writable (keys_at said) ≡ true
keys_are said h = and_from _ _ (all_fit_keys said h) (keys_are_sorted said)

-- ---- keys that take effect

same_format : (n : ℕ) (k : Key) → (effective_key n k).format ≡ k.format
same_format n k = grind arith

same_order : (a b c d : List ℕ) → a ≡ c → b ≡ d → is_lt (slice_cmp nat_cmp c d) ≡ true → is_lt (slice_cmp nat_cmp a b) ≡ true
same_order a b c d e f h = rw (e, f) h

before_same : (n : ℕ) (k : Key) (keys : List Key) → list_all (is_before k) keys ≡ true → list_all (is_before (effective_key n k)) (map (effective_key n) keys) ≡ true
before_same n k [] h = refl
before_same n k (j ∷ keys) h =
    let a = and_parts (is_before k j) (list_all (is_before k) keys) h in
    and_from _ _ (same_order (effective_key n k).format (effective_key n j).format k.format j.format (same_format n k) (same_format n j) a.0) (before_same n k keys a.1)

sorted_same : (n : ℕ) (keys : List Key) → are_sorted keys ≡ true → are_sorted (map (effective_key n) keys) ≡ true
sorted_same n [] h = refl
sorted_same n (k ∷ keys) h = let a = and_parts (list_all (is_before k) keys) (are_sorted keys) h in and_from _ _ (before_same n k keys a.0) (sorted_same n keys a.1)

effective_fits : (n : ℕ) (k : Key) → iv_is_writable n ≡ true → key_is_writable k ≡ true → key_is_writable (effective_key n k) ≡ true
effective_fits n k i h = grind (arith, and_parts, and_from)

effective_states : (n : ℕ) (k : Key) → writable_key_states_iv (effective_key n k) ≡ true
effective_states n k = grind arith

word_is_iv : (n : ℕ) → is_well_formed_number n ≡ true → iv_is_writable n ≡ true
word_is_iv n h = grind arith

all_effective : (n : ℕ) (keys : List Key) → iv_is_writable n ≡ true → list_all key_is_writable keys ≡ true → list_all key_is_writable (map (effective_key n) keys) ≡ true
all_effective n [] i h = refl
all_effective n (k ∷ keys) i h = let a = and_parts (key_is_writable k) (list_all key_is_writable keys) h in and_from _ _ (effective_fits n k i a.0) (all_effective n keys i a.1)

all_state : (n : ℕ) (keys : List Key) → list_all writable_key_states_iv (map (effective_key n) keys) ≡ true
all_state n [] = refl
all_state n (k ∷ keys) = and_from _ _ (effective_states n k) (all_state n keys)

pub effective_fit : (n : ℕ) (said : List Said) → list_all is_fit said ≡ true → is_well_formed_number n ≡ true → effective_keys_fit (map (effective_key n) (keys_at said)) ≡ true
effective_fit n said h w = grind (arith, and_from, all_effective, word_is_iv, all_fit_keys, sorted_same, keys_are_sorted, all_state)

-- ---- the initialisation section

pub init_section_is_fit : (said : List Said) → all_good said ≡ true → if_some init_section_fits (init_section_at said) ≡ true
init_section_is_fit [] h = refl
init_section_is_fit (init_section uri part ∷ before) h = grind (arith, all_parts, good_parts, and_from, keys_are, all_fit)
init_section_is_fit (said ∷ before) h = init_section_is_fit before (all_parts said before h).1
