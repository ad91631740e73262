-- The front of a text: what a scan of its bytes says of its first piece.
use Rattle.std.proofs.Common.{◌≡◌, ◌≢◌, ℕ, zero, suc, ◌+◌, ◌<◌, ◌≤◌, Bool, true, false, not, cond, List, [], ◌∷◌, ◌++◌, take, drop, length, get_or, refl, ap, sym, ◌∙◌, arith, append_assoc, length-append, Err, Some, None}
use Rattle.std.specs.Prelude.{◌&&◌, ◌==◌}
use Rattle.std.specs.List.{list_any, list_all, position_or_len, before_first}
use Rattle.std.specs.Str.{IsUtf8, IsCharBoundary, IsAscii}
use Rattle.std.proofs.lemmas.Bool.{and_parts, and_from, or_from, or_left, and_left, and_right, not-true, eqb-true, ne_eqb, lt-ltb}
use Rattle.std.proofs.lemmas.Bool.Decides.{nat_tests}
use Rattle.std.proofs.lemmas.List.{append-nil, take-append-drop, take_at, drop_more, nil_from_length}
use Rattle.std.proofs.lemmas.List.Folds.{list_all-append}
use Rattle.std.proofs.lemmas.Str.{IsUtf8-from_ascii, IsCharBoundary-from_take}
use Rattle.attr_list.specs.declared.AttrFault.TheVariants.{BadName, NoEquals, BadValue, OpenQuote}
use Rattle.attr_list.specs.Attributes.{is_comma, is_equals, is_quote, is_attribute_name_byte, is_name, ends_plain, piece_name, quoted_value, value_pair, pair_of_value}
use Rattle.attr_list.specs.Scanning.{first_from, first_piece}
use Rattle.attr_list.specs.Inner.Scanning.{ends_attribute_pair, begins_quoted, name_fault, StartsWithName, IsValued, HasValueFault}
use Rattle.attr_list.proofs.Cuts.{position_at, any_at, before_after, begins_with, before_has_none, rest_begins, list_any-none, position_le, position_none}
use Rattle.attr_list.proofs.Pieces.{first_past, first_inside, first_ended, name_runs, name_without_equals, plain_runs}

some_length : (xs : List ℕ) → (length xs == 0) ≡ false → 0 < length xs
some_length xs h = grind arith

-- ---- names

abbrev ends_name : ℕ → Bool
ends_name b = not (is_attribute_name_byte b)

pub record IsNameCut (text name after : List ℕ) : Type 0 where
  pub whole : text ≡ name ++ after
  pub named : list_all is_attribute_name_byte name ≡ true
  pub stopped : begins_with ends_name after ≡ true

pub name_cut : (text name after : List ℕ) (n : ℕ) → n ≡ position_or_len ends_name text → name ≡ take n text → after ≡ drop n text → IsNameCut text name after
name_cut text name after n e f g =
    let front : name ≡ before_first ends_name text = f ∙ ap (λ k. take k text) e in
    let back : after ≡ drop (position_or_len ends_name text) text = g ∙ ap (λ k. drop k text) e in record {
      whole = sym (ap (λ x. x ++ after) f ∙ ap (λ x. take n text ++ x) g ∙ take-append-drop n text);
      named = list_any-none is_attribute_name_byte name (ap (list_any ends_name) front ∙ before_has_none ends_name text);
      stopped = ap (begins_with ends_name) back ∙ rest_begins ends_name text;
    }

ascii_name : (name : List ℕ) → list_all is_attribute_name_byte name ≡ true → IsAscii name
ascii_name [] h i = omega arith
ascii_name (b ∷ name) h zero = grind arith
ascii_name (b ∷ name) h (suc i) = let a = and_parts _ _ h in ascii_name name a.1 i

pub name_boundary : (text : List ℕ) (n : ℕ) → IsUtf8 text → n ≡ position_or_len ends_name text → IsCharBoundary text n
name_boundary text n u e =
    let cut = name_cut text (take n text) (drop n text) n e refl refl in
    let within : n ≤ length text = omega (arith, position_le ends_name text) in
    IsCharBoundary-from_take text n u within (IsUtf8-from_ascii (take n text) (ascii_name (take n text) cut.named))

is_name_from : (name : List ℕ) → list_all is_attribute_name_byte name ≡ true → (length name == 0) ≡ false → is_name name ≡ true
is_name_from name h some = and_from _ _ (lt-ltb _ _ (some_length name some)) h

bad_name : (piece : List ℕ) → is_name (piece_name piece) ≡ false → name_fault piece ≡ Some BadName
bad_name piece h = rw h refl

-- a piece that begins with no name byte has no name
unnamed : (b : ℕ) (bytes : List ℕ) → is_attribute_name_byte b ≡ false → is_name (piece_name (b ∷ bytes)) ≡ false
unnamed b bytes h = grind arith

pub no_name : (text name after : List ℕ) → IsNameCut text name after → (length name == 0) ≡ true → name_fault (first_piece text) ≡ Some BadName
no_name text name after cut none = grind (arith, nil_from_length)

pub has_name : (text name after value : List ℕ) → IsNameCut text name after → (length name == 0) ≡ false → after ≡ 61 ∷ value → StartsWithName text name value
has_name text name after value cut some e = (is_name_from name cut.named some, cut.whole ∙ ap (λ x. name ++ x) e)

first_of_cut : (text name after : List ℕ) → IsNameCut text name after → (length name == 0) ≡ false → first_piece text ≡ name ++ first_piece after
first_of_cut text name after cut some = ap first_piece cut.whole ∙ first_past name after (name_runs name (is_name_from name cut.named some))

pub name_alone : (text name after : List ℕ) → IsNameCut text name after → (length name == 0) ≡ false → ends_attribute_pair after ≡ true → name_fault (first_piece text) ≡ Some NoEquals
name_alone text name after cut some ended =
    let is = is_name_from name cut.named some in
    let free = name_without_equals name is in
    let first : first_piece text ≡ name = first_of_cut text name after cut some ∙ ap (λ x. name ++ x) (first_ended after ended) ∙ append-nil name in
    let whole : piece_name name ≡ name = ap (λ n. take n name) (position_none is_equals name free) ∙ take_whole name in
    ap name_fault first ∙ by name (piece_name name) whole is free
  where
    take_whole : (xs : List ℕ) → take (length xs) xs ≡ xs
    take_whole xs = ap (λ x. take (length xs) x) (sym (append-nil xs)) ∙ take_at xs [] (length xs) refl

    by : (name found : List ℕ) → found ≡ name → is_name name ≡ true → list_any is_equals name ≡ false → cond (not (is_name found)) (Some BadName) (cond (not (list_any is_equals name)) (Some NoEquals) None) ≡ Some NoEquals
    by name found e h g = rw (e, h, g) refl

pub name_broken : (text name after : List ℕ) → IsNameCut text name after → (length name == 0) ≡ false → ((rest : List ℕ) → after ≢ 61 ∷ rest) → ends_attribute_pair after ≡ false → name_fault (first_piece text) ≡ Some BadName
name_broken text name [] cut some other ended = grind arith
name_broken text name (b ∷ after) cut some other ended =
    let is = is_name_from name cut.named some in
    let free = name_without_equals name is in
    let rest = first_from (cond (is_quote b) true false) after in
    let front : first_piece (b ∷ after) ≡ b ∷ rest = rw ended refl in
    let first = first_of_cut text name (b ∷ after) cut some ∙ ap (λ x. name ++ x) front in
    let parts : piece_name (name ++ (b ∷ rest)) ≡ name ++ piece_name (b ∷ rest) = before_after is_equals name (b ∷ rest) free in
    let plain = unequal b (position_or_len is_equals rest) rest (ne_eqb b 61 (λ e. other after (ap (λ c. c ∷ after) e))) in
    ap name_fault first ∙ bad_name (name ++ (b ∷ rest)) (ap is_name (parts ∙ ap (λ x. name ++ x) plain) ∙ broken name b (take (position_or_len is_equals rest) rest) (not-true _ cut.stopped))
  where
    unequal : (b n : ℕ) (rest : List ℕ) → is_equals b ≡ false → take (cond (not (is_equals b)) (1 + n) 0) (b ∷ rest) ≡ b ∷ take n rest
    unequal b n rest h = let e : 1 + n ≡ suc n = omega arith in rw h (ap (λ k. take k (b ∷ rest)) e)

    broken : (name : List ℕ) (b : ℕ) (rest : List ℕ) → is_attribute_name_byte b ≡ false → is_name (name ++ (b ∷ rest)) ≡ false
    broken name b rest h = and_right _ _ (list_all-append is_attribute_name_byte name (b ∷ rest) ∙ and_right _ _ (and_left _ _ h))

-- ---- values

-- no quote in this text by its places
abbrev HasNoQuote : List ℕ → Type 0
HasNoQuote text = (i : ℕ) → i < length text → get_or text i 0 ≢ 34

quoteless : (text : List ℕ) → HasNoQuote text → list_any is_quote text ≡ false
quoteless [] h = refl
quoteless (b ∷ text) h = or_from _ _ (ne_eqb b 34 (h 0 (omega arith))) (quoteless text (λ i l. h (suc i) (omega arith)))

open_fault : (text : List ℕ) → list_any is_quote text ≡ false → quoted_value text ≡ Err OpenQuote
open_fault text h = rw h refl

pub open_quote : (text : List ℕ) → HasNoQuote text → HasValueFault (34 ∷ text) OpenQuote
open_quote text h name =
    let none = quoteless text h in
    let first : first_from true text ≡ text = ap (first_from true) (sym (append-nil text)) ∙ first_inside text [] none ∙ append-nil text in
    ap (λ x. value_pair name true (quoted_value x)) first ∙ ap (value_pair name true) (open_fault text none)

-- the text is a value, a quote and the rest, with no quote in the value
pub record IsQuoteCut (text value after : List ℕ) : Type 0 where
  pub whole : text ≡ value ++ 34 ∷ after
  pub quoteless : list_any is_quote value ≡ false

pub quote_cut : (text value after : List ℕ) → (text ≡ value ++ 34 ∷ after) × HasNoQuote value → IsQuoteCut text value after
quote_cut text value after h = record { whole = h.0; quoteless = quoteless value h.1 }

pub text_after_quote : (text value after : List ℕ) → IsQuoteCut text value after → ends_attribute_pair after ≡ false → HasValueFault (34 ∷ text) BadValue
text_after_quote text value [] cut ended name = grind arith
text_after_quote text value (b ∷ after) cut ended name =
    grind (arith, any_at, first_inside, length-append, position_at, quoteless)

pub has_quoted : (text value after : List ℕ) → IsQuoteCut text value after → ends_attribute_pair after ≡ true → IsValued (34 ∷ text) true value after
has_quoted text value after cut ended = grind (arith, append_assoc)

pub record IsPlainCut (text value after : List ℕ) : Type 0 where
  pub whole : text ≡ value ++ after
  pub plain : list_any ends_plain value ≡ false
  pub stopped : begins_with ends_plain after ≡ true

pub plain_cut : (text value after : List ℕ) (n : ℕ) → n ≡ position_or_len ends_plain text → value ≡ take n text → after ≡ drop n text → IsPlainCut text value after
plain_cut text value after n e f g = grind (arith, before_has_none, rest_begins, take-append-drop)

bad_plain : (name piece : List ℕ) → begins_quoted piece ≡ false → list_any ends_plain piece ≡ true → pair_of_value name piece ≡ Err BadValue
bad_plain name piece h g = grind arith

pub no_plain : (text value after : List ℕ) → IsPlainCut text value after → begins_quoted text ≡ false → (length value == 0) ≡ true → HasValueFault text BadValue
no_plain text value after cut unquoted none name =
    let empty : value ≡ [] = nil_from_length value (eqb-true _ _ none) in
    let same : text ≡ after = cut.whole ∙ ap (λ x. x ++ after) empty in
    ap (λ x. pair_of_value name (first_piece x)) same ∙ by name after cut.stopped (ap begins_quoted (sym same) ∙ unquoted)
  where
    by : (name after : List ℕ) → begins_with ends_plain after ≡ true → begins_quoted after ≡ false → pair_of_value name (first_piece after) ≡ Err BadValue
    by name [] h g = refl
    by name (b ∷ after) h g = step (is_comma b) refl
      where
        step : (c : Bool) → is_comma b ≡ c → pair_of_value name (cond (c && true) [] (b ∷ first_from (cond (is_quote b) true false) after)) ≡ Err BadValue
        step true e = refl
        step false e = bad_plain name (b ∷ first_from (cond (is_quote b) true false) after) g (or_left _ _ h)

begins_as : (value after : List ℕ) → 0 < length value → begins_quoted (value ++ after) ≡ begins_quoted value
begins_as [] after h = absurd (omega arith)
begins_as (b ∷ value) after h = refl

pub plain_broken : (text value after : List ℕ) → IsPlainCut text value after → begins_quoted text ≡ false → (length value == 0) ≡ false → ends_attribute_pair after ≡ false → HasValueFault text BadValue
plain_broken text value [] cut unquoted some ended name = grind arith
plain_broken text value (b ∷ after) cut unquoted some ended name =
    grind (arith, any_at, begins_as, first_past, plain_runs, some_length)

pub has_plain : (text value after : List ℕ) → IsPlainCut text value after → (length value == 0) ≡ false → ends_attribute_pair after ≡ true → IsValued text false value after
has_plain text value after cut some ended = grind arith

pub plain_boundary : (text : List ℕ) (n : ℕ) → IsUtf8 text → n ≡ position_or_len ends_plain text → IsCharBoundary text n
plain_boundary text n u e =
    let stop : begins_with ends_plain (drop n text) ≡ true = ap (λ k. begins_with ends_plain (drop k text)) e ∙ rest_begins ends_plain text in
    (omega (arith, position_le ends_plain text), λ l high. absurd (omega (arith, small (get_or text n 0) (ap (begins_with ends_plain) (sym (drop_more text n 0 l)) ∙ stop))))
  where
    small : (b : ℕ) → ends_plain b ≡ true → b < 128
    small b h = grind (arith, nat_tests)
