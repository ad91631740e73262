-- What stands among the keys in force.
use Rattle.std.proofs.Common.{◌≡◌, ℕ, Bool, true, false, not, cond, List, [], ◌∷◌, refl, ap, arith}
use Rattle.std.specs.Prelude.{Some, None, find, bytes_eq}
use Rattle.std.proofs.lemmas.Slice.Eq.{bytes_eq-Decides}
use Rattle.playlist_model.specs.declared.Key.{Key}
use Rattle.playlist_model.specs.Said.{Said, no_keys, key}
use Rattle.playlist_model.specs.LookBack.{keys_at, key_of, has_format, put_key, insert_key, without_format, is_before}

-- a key that is looked for, put among others that aren't, is found
found : (p : Key → Bool) (k : Key) → p k ≡ true → (keys : List Key) → find p keys ≡ None → find p (insert_key k keys) ≡ Some k
found p k pk [] none = rw pk refl
found p k pk (j ∷ js) none = grind (arith, found p k pk js)

other-step : (p : Key → Bool) (k j : Key) (js : List Key) → p k ≡ false → find p (insert_key k js) ≡ find p js
    → (b : Bool) → find p (cond b (k ∷ j ∷ js) (j ∷ insert_key k js)) ≡ find p (j ∷ js)
other-step p k j js pk ih true = rw pk refl
other-step p k j js pk ih false = ap (λ r. cond (p j) (Some j) r) ih

-- a key that isn't looked for changes nothing
other : (p : Key → Bool) (k : Key) → p k ≡ false → (keys : List Key) → find p (insert_key k keys) ≡ find p keys
other p k pk [] = rw pk refl
other p k pk (j ∷ js) = other-step p k j js pk (other p k pk js) (is_before k j)

gone-step : (format : List ℕ) (j : Key) (js : List Key) → find (has_format format) (without_format format js) ≡ None
    → (b : Bool) → bytes_eq format j.format ≡ b → find (has_format format) (cond (not b) (j ∷ without_format format js) (without_format format js)) ≡ None
gone-step format j js ih true e = ih
gone-step format j js ih false e = rw e ih

gone : (format : List ℕ) (keys : List Key) → find (has_format format) (without_format format keys) ≡ None
gone format [] = refl
gone format (j ∷ js) = gone-step format j js (gone format js) (bytes_eq format j.format) refl

differs : (a b c : List ℕ) (t : Bool) → bytes_eq a b ≡ false → bytes_eq b c ≡ true → bytes_eq a c ≡ t → bytes_eq a c ≡ false
differs a b c t e h g = grind (arith, bytes_eq-Decides)

kept-step : (format g : List ℕ) (j : Key) (js : List Key) → bytes_eq format g ≡ false → find (has_format format) (without_format g js) ≡ find (has_format format) js
    → (b : Bool) → bytes_eq g j.format ≡ b → find (has_format format) (cond (not b) (j ∷ without_format g js) (without_format g js)) ≡ find (has_format format) (j ∷ js)
kept-step format g j js d ih true e = let no = differs format g j.format _ d e refl in rw no ih
kept-step format g j js d ih false e = ap (λ r. cond (bytes_eq format j.format) (Some j) r) ih

kept : (format g : List ℕ) → bytes_eq format g ≡ false → (keys : List Key) → find (has_format format) (without_format g keys) ≡ find (has_format format) keys
kept format g d [] = refl
kept format g d (j ∷ js) = kept-step format g j js d (kept format g d js) (bytes_eq g j.format) refl

put-step : (format : List ℕ) (k : Key) (keys : List Key) (b : Bool) → bytes_eq format k.format ≡ b
    → find (has_format format) (put_key k keys) ≡ cond b (Some k) (find (has_format format) keys)
put-step format k keys b e = grind (arith, bytes_eq-Decides, found, gone, other, kept)

-- the key in force of a format is the last one since METHOD=NONE
pub keys_are_the_last : (format : List ℕ) (before : List Said) → find (has_format format) (keys_at before) ≡ key_of format before
keys_are_the_last format [] = refl
keys_are_the_last format (no_keys ∷ before) = refl
keys_are_the_last format (key k ∷ before) = grind (arith, put-step, keys_are_the_last format before)
keys_are_the_last format (_ ∷ before) = keys_are_the_last format before
