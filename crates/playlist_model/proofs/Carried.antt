-- The carried attributes of a key tag, with commas before them, are read as themselves.
use Rattle.std.proofs.Common.{◌≡◌, ◌≢◌, ℕ, Bool, true, false, not, cond, List, [], ◌∷◌, ◌++◌, refl, ap, sym, ◌∙◌, append-nil, append_assoc, None, arith}
use Rattle.std.specs.Prelude.{◌&&◌, filter}
use Rattle.std.specs.List.{list_any}
use Rattle.std.proofs.lemmas.Bool.{and_parts, and_from, or_parts, or_from, not-true, not_from_false}
use Rattle.std.proofs.lemmas.List.Folds.{list_any-append}
use Rattle.attr_list.specs.Attributes.{Pair, is_pair, is_named, are_apart, are_attributes, attributes_of, attributes_text, pair_spelling}
use Rattle.attr_list.proofs.Grammar.{written_is_read}
use Rattle.playlist_model.specs.Carried.{is_key_attribute, carried, after_commas, are_others, is_carried}

-- attributes with commas between them: the first, then each with a comma before it
pub attributes_are : (pair : Pair) (pairs : List Pair) → attributes_text (pair ∷ pairs) ≡ pair_spelling pair ++ after_commas pairs
attributes_are pair [] = sym (append-nil (pair_spelling pair))
attributes_are pair (next ∷ pairs) = ap (λ t. pair_spelling pair ++ 44 ∷ t) (attributes_are next pairs)

pub commas_append : (xs ys : List Pair) → after_commas (xs ++ ys) ≡ after_commas xs ++ after_commas ys
commas_append [] ys = refl
commas_append (x ∷ xs) ys = grind (arith, append_assoc, commas_append xs ys)

-- ---- names that were apart stay apart if some are left out

abbrev FreeOf : List Pair → List Pair → Type 0
FreeOf kept before = (name : List ℕ) → list_any (is_named name) before ≡ false → list_any (is_named name) kept ≡ false

none_before : (name : List ℕ) (before : List Pair) (pair : Pair) → list_any (is_named name) (before ++ pair ∷ []) ≡ false → (list_any (is_named name) before ≡ false) × (is_named name pair ≡ false)
none_before name before pair h = grind (arith, or_parts, list_any-append)

kept_apart : (q : Pair → Bool) (before kept later : List Pair) → FreeOf kept before → are_apart before later ≡ true → are_apart kept (filter q later) ≡ true
kept_apart q before kept [] f h = refl
kept_apart q before kept (pair ∷ later) f h =
    let a : ((is_pair pair && not (list_any (is_named pair.name) before)) ≡ true) × (are_apart (before ++ pair ∷ []) later ≡ true) = and_parts _ _ h in
    let b : (is_pair pair ≡ true) × (not (list_any (is_named pair.name) before) ≡ true) = and_parts _ _ a.0 in
    step (q pair) (and_from _ _ b.0 (not_from_false _ (f pair.name (not-true _ b.1))))
    (kept_apart q (before ++ pair ∷ []) (kept ++ pair ∷ []) later with_pair a.1)
    (kept_apart q (before ++ pair ∷ []) kept later (λ name g. f name (none_before name before pair g).0) a.1)
  where
    with_pair : FreeOf (kept ++ pair ∷ []) (before ++ pair ∷ [])
    with_pair name g =
        let n = none_before name before pair g in list_any-append (is_named name) kept (pair ∷ []) ∙ or_from _ _ (f name n.0) (or_from _ _ n.1 refl)

    step : (b : Bool) → (is_pair pair && not (list_any (is_named pair.name) kept)) ≡ true → are_apart (kept ++ pair ∷ []) (filter q later) ≡ true → are_apart kept (filter q later) ≡ true
        → are_apart kept (cond b (pair ∷ filter q later) (filter q later)) ≡ true
    step true g rest without = and_from _ _ g rest
    step false g rest without = without

none_own : (pairs : List Pair) → list_any is_key_attribute (carried pairs) ≡ false
none_own [] = refl
none_own (pair ∷ pairs) = step (is_key_attribute pair) refl (none_own pairs)
  where
    step : (b : Bool) → is_key_attribute pair ≡ b → list_any is_key_attribute (carried pairs) ≡ false → list_any is_key_attribute (cond (not b) (pair ∷ carried pairs) (carried pairs)) ≡ false
    step true e h = h
    step false e h = or_from _ _ e h

-- ---- the text that is made of a tag's attributes

some_pairs : (pair : Pair) (pairs : List Pair) → (pair ∷ pairs) ≢ []
some_pairs pair pairs e = cc

such_are_others : (pairs : List Pair) → are_attributes pairs ≡ true → list_any is_key_attribute pairs ≡ false → are_others (after_commas pairs) ≡ true
such_are_others [] h n = refl
such_are_others (pair ∷ pairs) h n =
    ap (λ text. is_carried (attributes_of None text)) (sym (attributes_are pair pairs)) ∙ ap is_carried (written_is_read (pair ∷ pairs) (some_pairs pair pairs) h) ∙ ap not n

pub others_are : (pairs : List Pair) → are_attributes pairs ≡ true → are_others (after_commas (carried pairs)) ≡ true
others_are pairs h = grind (arith, such_are_others, kept_apart, none_own)
