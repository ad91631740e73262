-- Where a key is put among the keys in force.
use Rattle.std.proofs.Common.{◌≡◌, ◌∙◌, ◌==◌, ◌+◌, ◌≤◌, ℕ, zero, Bool, true, false, not, cond, List, [], ◌∷◌, refl, ap, arith, suc, sym, length}
use Rattle.std.specs.Prelude.{insert}
use Rattle.std.specs.List.{position_or_len}
use Rattle.playlist_model.specs.declared.Key.{Key}
use Rattle.playlist_model.specs.InCommon.{key_at}
use Rattle.std.proofs.lemmas.Bool.{eqb-true, eq-eqb}
use Rattle.playlist_model.specs.LookBack.{has_format, is_before, insert_key, put_key, without_format}

insert_step : (k j : Key) (keys : List Key) (b : Bool) → insert_key k keys ≡ insert keys (position_or_len (is_before k) keys) k
    → cond b (k ∷ j ∷ keys) (j ∷ insert_key k keys) ≡ insert (j ∷ keys) (cond (not b) (1 + position_or_len (is_before k) keys) 0) k
insert_step k j keys true e = refl
insert_step k j keys false e =
    let one : 1 + position_or_len (is_before k) keys ≡ suc (position_or_len (is_before k) keys) = omega arith in
    rw one (ap (λ later. j ∷ later) e)

-- a key's place is before the first key of a greater format
pub insert_key_at : (k : Key) (keys : List Key) → insert keys (position_or_len (is_before k) keys) k ≡ insert_key k keys
insert_key_at k [] = refl
insert_key_at k (j ∷ keys) = sym (insert_step k j keys (is_before k j) (sym (insert_key_at k keys)))

length_step : (k j : Key) (keys : List Key) (b : Bool) → length (insert_key k keys) ≡ length keys + 1
    → length (cond b (k ∷ j ∷ keys) (j ∷ insert_key k keys)) ≡ length (j ∷ keys) + 1
length_step k j keys true e = omega arith
length_step k j keys false e = omega (arith, e)

length_insert : (k : Key) (keys : List Key) → length (insert_key k keys) ≡ length keys + 1
length_insert k [] = refl
length_insert k (j ∷ keys) = length_step k j keys (is_before k j) (length_insert k keys)

-- one more than the keys of other formats
pub length_put : (k : Key) (keys : List Key) → length (put_key k keys) ≡ length (without_format k.format keys) + 1
length_put k keys = length_insert k (without_format k.format keys)

-- ---- what stays where it was

not_more : (n m : ℕ) → n ≡ suc m → n ≤ m → ⊥
not_more n m e l = omega (arith, e, l)

fewer_step : (k : Key) (keys rest : List Key) (b : Bool) → length rest ≤ length keys → length (cond (not b) (k ∷ rest) rest) ≤ length (k ∷ keys)
fewer_step k keys rest true l = omega (arith, l)
fewer_step k keys rest false l = omega (arith, l)

fewer : (format : List ℕ) (keys : List Key) → length (without_format format keys) ≤ length keys
fewer format [] = omega arith
fewer format (k ∷ keys) = fewer_step k keys (without_format format keys) (has_format format k) (fewer format keys)

none_gone_step : (k : Key) (keys rest : List Key) (b : Bool) → length rest ≤ length keys → (length rest ≡ length keys → rest ≡ keys)
    → length (cond (not b) (k ∷ rest) rest) ≡ length (k ∷ keys) → cond (not b) (k ∷ rest) rest ≡ k ∷ keys
none_gone_step k keys rest true l same h = absurd (not_more (length rest) (length keys) h l)
none_gone_step k keys rest false l same h = ap (λ later. k ∷ later) (same (omega (arith, h)))

-- a list that loses nothing stays
none_gone : (format : List ℕ) (keys : List Key) → length (without_format format keys) ≡ length keys → without_format format keys ≡ keys
none_gone format [] h = refl
none_gone format (k ∷ keys) h = none_gone_step k keys (without_format format keys) (has_format format k) (fewer format keys) (none_gone format keys) h

later_apart : (other place : ℕ) (same : Bool) → (other == place) ≡ same → (suc other == 1 + place) ≡ false → same ≡ false
later_apart other place false is h = refl
later_apart other place true is h =
    let e = eqb-true other place is in
    let next : suc other ≡ 1 + place = omega (arith, e) in
    sym (eq-eqb _ _ next) ∙ h

stay_step : (key k : Key) (keys rest : List Key) (place other : ℕ) (b : Bool) → (length rest ≡ length keys → rest ≡ keys)
    → ((other : ℕ) → length rest + 1 ≡ length keys → (other == place) ≡ false → key_at other keys ≡ key_at other (insert rest place key))
    → length (cond (not b) (k ∷ rest) rest) + 1 ≡ length (k ∷ keys) → (other == cond (not b) (1 + place) 0) ≡ false
    → key_at other (k ∷ keys) ≡ key_at other (insert (cond (not b) (k ∷ rest) rest) (cond (not b) (1 + place) 0) key)
stay_step key k keys rest place zero true same stay h apart = absurd (cc apart)
stay_step key k keys rest place (suc other) true same stay h apart = ap (key_at other) (sym (same (omega (arith, h))))
stay_step key k keys rest place zero false same stay h apart = let next : 1 + place ≡ suc place = omega arith in rw next refl
stay_step key k keys rest place (suc other) false same stay h apart =
    let next : 1 + place ≡ suc place = omega arith in
    rw next (stay other (omega (arith, h)) (later_apart other place (other == place) refl apart))

-- where a key takes the place of the one of its format, the others stay
others_stay : (key : Key) (format : List ℕ) (keys : List Key) (other : ℕ) → length (without_format format keys) + 1 ≡ length keys → (other == position_or_len (has_format format) keys) ≡ false
    → key_at other keys ≡ key_at other (insert (without_format format keys) (position_or_len (has_format format) keys) key)
others_stay key format [] other h apart = absurd (cc h)
others_stay key format (k ∷ keys) other h apart =
    stay_step key k keys (without_format format keys) (position_or_len (has_format format) keys) other (has_format format k) (none_gone format keys) (others_stay key format keys) h apart

pub others_stay_at : (key : Key) (format : List ℕ) (old rest new : List Key) (place other : ℕ) → rest ≡ without_format format old → length rest + 1 ≡ length old → place ≡ position_or_len (has_format format) old → (other == place) ≡ false → new ≡ insert rest place key
    → key_at other old ≡ key_at other new
others_stay_at key format old rest new place other e h at apart is =
    others_stay key format old other (ap (λ l. length l + 1) (sym e) ∙ h) (ap (λ p. other == p) (sym at) ∙ apart)
    ∙ ap (λ p. key_at other (insert (without_format format old) p key)) (sym at) ∙ ap (λ l. key_at other (insert l place key)) (sym e) ∙ ap (key_at other) (sym is)
