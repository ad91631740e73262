-- The order of keys by the bytes of their format.
use Rattle.std.proofs.Common.{◌≡◌, ℕ, Bool, true, false, not, cond, List, [], ◌∷◌, refl, ap, sym, ◌∙◌, arith}
use Rattle.std.specs.Prelude.{bytes_eq}
use Rattle.std.specs.List.{list_any, list_all}
use Rattle.std.specs.Ordering.{nat_cmp, is_lt, is_eq, ordering_reverse}
use Rattle.std.specs.declared.cmp.Ordering.{Ordering}
use Rattle.std.specs.declared.cmp.Ordering.TheVariants.{Less, Equal, Greater}
use Rattle.std.specs.Cmp.Lexicographic.{slice_cmp}
use Rattle.std.proofs.lemmas.Cmp.{nat_list_cmp_total}
use Rattle.std.proofs.lemmas.Map.Text.{is_eq-slice_cmp}
use Rattle.std.proofs.lemmas.Bool.{and_parts, and_from, or_parts}
use Rattle.std.proofs.lemmas.Slice.Eq.{bytes_eq-Decides}
use Rattle.attr_list.proofs.Elements.{all_from}
use Rattle.playlist_model.specs.declared.Key.{Key}
use Rattle.playlist_model.specs.Said.{Said, no_keys, key}
use Rattle.playlist_model.specs.LookBack.{keys_at, has_format, put_key, insert_key, without_format, is_before, are_sorted}
use Rattle.playlist_model.proofs.ListTests.{all_filter}

-- ---- two keys

is_greater : (o : Ordering) → is_lt o ≡ true → ordering_reverse o ≡ Greater
is_greater Less h = refl
is_greater Equal h = cc
is_greater Greater h = cc

reversed : (a b : List ℕ) → is_lt (slice_cmp nat_cmp a b) ≡ true → slice_cmp nat_cmp b a ≡ Greater
reversed a b h = nat_list_cmp_total.antisymm b a ∙ is_greater (slice_cmp nat_cmp a b) h

is_less : (o : Ordering) → is_lt o ≡ true → o ≡ Less
is_less Less h = refl
is_less Equal h = cc
is_less Greater h = cc

pub not_back : (x k : Key) → is_before x k ≡ true → is_before k x ≡ false
not_back x k h = let e = reversed x.format k.format h in rw e refl

pub differ_back : (x k : Key) → is_before x k ≡ true → bytes_eq k.format x.format ≡ false
differ_back x k h = let e = reversed x.format k.format h in sym (is_eq-slice_cmp k.format x.format) ∙ ap is_eq e

pub differ : (x k : Key) → is_before x k ≡ true → bytes_eq x.format k.format ≡ false
differ x k h = let e = is_less _ h in sym (is_eq-slice_cmp x.format k.format) ∙ ap is_eq e

pub like : (y x k : Key) → bytes_eq x.format y.format ≡ true → is_before x k ≡ true → is_before y k ≡ true
like y x k e h = grind (arith, bytes_eq-Decides)

pub like_after : (y x k : Key) → bytes_eq x.format k.format ≡ true → is_before y k ≡ true → is_before y x ≡ true
like_after y x k e h = grind (arith, bytes_eq-Decides)

pub chained : (x y k : Key) → is_before x y ≡ true → is_before y k ≡ true → is_before x k ≡ true
chained x y k h g = grind (arith, nat_list_cmp_total, is_less)

turned : (o : Ordering) → is_lt o ≡ false → is_eq o ≡ false → is_lt (ordering_reverse o) ≡ true
turned Less h g = cc
turned Equal h g = cc
turned Greater h g = refl

-- of two keys of different formats the one stands before the other
other_way : (k j : Key) → is_before k j ≡ false → bytes_eq k.format j.format ≡ false → is_before j k ≡ true
other_way k j h g = grind (arith, nat_list_cmp_total, turned, is_eq-slice_cmp)

-- ---- a key put among sorted keys

all_inserted : (p : Key → Bool) (k : Key) (keys : List Key) → p k ≡ true → list_all p keys ≡ true → list_all p (insert_key k keys) ≡ true
all_inserted p k [] h g = and_from _ _ h refl
all_inserted p k (j ∷ js) h g = let a = and_parts _ _ g in step (is_before k j) a.0 a.1 (all_inserted p k js h a.1)
  where
    step : (b : Bool) → p j ≡ true → list_all p js ≡ true → list_all p (insert_key k js) ≡ true → list_all p (cond b (k ∷ j ∷ js) (j ∷ insert_key k js)) ≡ true
    step true x y z = and_from _ _ h (and_from _ _ x y)
    step false x y z = and_from _ _ x z

inserted_step : (k j : Key) (js : List Key) → list_all (is_before j) js ≡ true → are_sorted js ≡ true → bytes_eq k.format j.format ≡ false → are_sorted (insert_key k js) ≡ true
    → (b : Bool) → is_before k j ≡ b → are_sorted (cond b (k ∷ j ∷ js) (j ∷ insert_key k js)) ≡ true
inserted_step k j js h s d ih b e = grind (arith, and_from, all_from, chained, all_inserted, other_way)

inserted : (k : Key) (keys : List Key) → are_sorted keys ≡ true → list_any (has_format k.format) keys ≡ false → are_sorted (insert_key k keys) ≡ true
inserted k [] h g = refl
inserted k (j ∷ js) h g =
    let a : (list_all (is_before j) js ≡ true) × (are_sorted js ≡ true) = and_parts _ _ h in
    let b : (bytes_eq k.format j.format ≡ false) × (list_any (has_format k.format) js ≡ false) = or_parts _ _ g in
    inserted_step k j js a.0 a.1 b.0 (inserted k js a.1 b.1) (is_before k j) refl

none_left : (format : List ℕ) (keys : List Key) → list_any (has_format format) (without_format format keys) ≡ false
none_left format [] = refl
none_left format (j ∷ js) = grind (arith, none_left format js)

left_sorted : (format : List ℕ) (keys : List Key) → are_sorted keys ≡ true → are_sorted (without_format format keys) ≡ true
left_sorted format [] h = refl
left_sorted format (j ∷ js) h =
    let a : (list_all (is_before j) js ≡ true) × (are_sorted js ≡ true) = and_parts _ _ h in
    step (not (bytes_eq format j.format)) (all_filter (is_before j) (λ (k : Key). not (bytes_eq format k.format)) js a.0) (left_sorted format js a.1)
  where
    step : (b : Bool) → list_all (is_before j) (without_format format js) ≡ true → are_sorted (without_format format js) ≡ true
        → are_sorted (cond b (j ∷ without_format format js) (without_format format js)) ≡ true
    step true x y = and_from _ _ x y
    step false x y = y

pub put_sorted : (k : Key) (keys : List Key) → are_sorted keys ≡ true → are_sorted (put_key k keys) ≡ true
put_sorted k keys h = grind (arith, inserted, left_sorted, none_left)

-- the keys in force are sorted, with one key for each format
pub keys_are_sorted : (before : List Said) → are_sorted (keys_at before) ≡ true
keys_are_sorted [] = refl
keys_are_sorted (no_keys ∷ before) = refl
keys_are_sorted (key k ∷ before) = put_sorted k (keys_at before) (keys_are_sorted before)
keys_are_sorted (_ ∷ before) = keys_are_sorted before
