-- The attributes of a tag whose line has no control character (RFC 8216, section 4.2).
use Rattle.std.proofs.Common.{◌≡◌, ℕ, Bool, true, false, not, cond, List, [], ◌∷◌, ◌++◌, map, refl, sym, subst, arith}
use Rattle.std.specs.Prelude.{Ok, Err, Option, Some, None, ◌&&◌}
use Rattle.std.specs.List.{list_any, list_all, find, AllByRecursion}
use Rattle.std.proofs.lemmas.Bool.{and_from, and_parts}
use Rattle.std.proofs.lemmas.Bool.Decides.{nat_tests}
use Rattle.attr_list.specs.Attributes.{Pair, is_named, is_name, is_attribute_name_byte, is_pair, are_apart, attribute, attributes_of, pieces, pair_spelling, value_spelling}
use Rattle.attr_list.proofs.Elements.{all_from}
use Rattle.attr_list.proofs.Grammar.{pairs_are, pieces_joined}
use Rattle.spec_words.specs.Outcomes.{optional, some_value}
use Rattle.playlist_model.specs.Said.{Outcome, attributes, required, value_if, quoted_of}
use Rattle.playlist_model.specs.Carried.{after_commas, carried, is_key_attribute}
use Rattle.playlist_model.specs.Inner.Lines.{is_printable_playlist_byte}
use Rattle.playlist_model.proofs.Carried.{others_are}
use Rattle.playlist_model.specs.Reading.{unlimited}
use Rattle.writable.specs.Fitting.{if_some, value_fits, other_attributes_are_writable}
use Rattle.playlist_write.proofs.CleanTexts.{Clean, clean-append, clean_printable}
use Rattle.read_is_writable.proofs.Gives.{Gives, answers, fails, told}
use Rattle.read_is_writable.proofs.CleanCuts.{clean_is, is_is_clean, clean_cut, clean_parts}

-- a name, and a value that can be written
abbrev pub pair_fits : Pair → Bool
pair_fits pair = is_name pair.name && value_fits pair.quoted pair.value

-- such pairs, with names apart
abbrev pub pairs_fit : List Pair → Bool
pairs_fit pairs = list_all pair_fits pairs && are_apart [] pairs

spelled_clean : (quoted : Bool) (value : List ℕ) → Clean (value_spelling quoted value) → Clean value
spelled_clean true value c = (clean_cut value 34 [] (omega arith) (clean_cut [] 34 (value ++ 34 ∷ []) (omega arith) c).1).0
spelled_clean false value c = c

pair_is_fit : (pair : Pair) → is_pair pair ≡ true → Clean (pair_spelling pair) → pair_fits pair ≡ true
pair_is_fit pair h c = grind (arith, and_parts, spelled_clean, clean_cut, and_from, clean_is)

each_fits : (before new : List Pair) → are_apart before new ≡ true → AllByRecursion Clean (map pair_spelling new) → list_all pair_fits new ≡ true
each_fits before [] h c = refl
each_fits before (pair ∷ new) h c =
    let a : ((is_pair pair && not (list_any (is_named pair.name) before)) ≡ true) × (are_apart (before ++ pair ∷ []) new ≡ true) = and_parts _ _ h in
    and_from _ _ (pair_is_fit pair (and_parts (is_pair pair) _ a.0).0 c.0) (each_fits (before ++ pair ∷ []) new a.1 c.1)

pairs_are_fit : (rest : List ℕ) (pairs : List Pair) → Clean rest → attributes_of None rest ≡ Ok pairs → pairs_fit pairs ≡ true
pairs_are_fit rest pairs c h =
    let r = pairs_are (pieces rest) [] pairs h in
    let parts : AllByRecursion Clean (pieces rest) = clean_parts 44 (pieces rest) (omega arith) (subst Clean (sym (pieces_joined false rest)) c) in
    let spelled : AllByRecursion Clean (map pair_spelling r.new) = subst (AllByRecursion Clean) r.spelled parts in
    let new : pairs_fit r.new ≡ true = and_from _ _ (each_fits [] r.new r.apart spelled) r.apart in
    subst (λ ps. pairs_fit ps ≡ true) (sym r.whole) new

pub attributes_fit : (rest : List ℕ) → Clean rest → Gives pairs_fit (attributes unlimited rest)
attributes_fit rest c = grind (arith, told, pairs_are_fit)

-- ---- one attribute

finds : {A : Type 0} (p q : A → Bool) (xs : List A) → list_all p xs ≡ true → if_some p (find q xs) ≡ true
finds p q [] h = refl
finds {A = A} p q (x ∷ xs) h = let a = and_parts _ _ h in step (q x) x (find q xs) a.0 (finds p q xs a.1)
  where
    step : (b : Bool) (x : A) (o : Option A) → p x ≡ true → if_some p o ≡ true → if_some p (cond b (Some x) o) ≡ true
    step true x o h g = h
    step false x o h g = g

pub attribute_fits : (pairs : List Pair) (name : List ℕ) → pairs_fit pairs ≡ true → if_some pair_fits (attribute pairs name) ≡ true
attribute_fits pairs name h = grind (arith, finds, and_parts)

pub value_if_fits : (wanted quoted : Bool) (value : List ℕ) → value_fits quoted value ≡ true → Gives (value_fits wanted) (value_if wanted quoted value)
value_if_fits true true value h = answers (value_fits true) value h
value_if_fits true false value h = fails (value_fits true) _
value_if_fits false true value h = fails (value_fits false) _
value_if_fits false false value h = answers (value_fits false) value h

pub pair_value : (pair : Pair) → pair_fits pair ≡ true → value_fits pair.quoted pair.value ≡ true
pair_value pair h = (and_parts (is_name pair.name) (value_fits pair.quoted pair.value) h).1

pub required_fits : (wanted : Bool) (o : Option Pair) → if_some pair_fits o ≡ true → Gives (value_fits wanted) (required wanted o)
required_fits wanted None h = fails (value_fits wanted) _
required_fits wanted (Some pair) h = value_if_fits wanted pair.quoted pair.value (pair_value pair h)

pub quoted_fits : (pair : Pair) → pair_fits pair ≡ true → Gives (value_fits true) (quoted_of pair)
quoted_fits pair h = value_if_fits true pair.quoted pair.value (pair_value pair h)

some_fits : {A : Type 0} (p : A → Bool) (o : Outcome A) → Gives p o → Gives (if_some p) (some_value o)
some_fits p (Ok x) g = answers (if_some p) (Some x) (g.passes x refl)
some_fits p (Err e) g = fails (if_some p) e

pub optional_fits : {A : Type 0} (p : A → Bool) (read : Pair → Outcome A) (o : Option Pair) → if_some pair_fits o ≡ true → ((pair : Pair) → pair_fits pair ≡ true → Gives p (read pair)) → Gives (if_some p) (optional read o)
optional_fits p read None h f = answers (if_some p) None refl
optional_fits p read (Some pair) h f = some_fits p (read pair) (f pair h)

-- ---- a key's other attributes (4.3.2.4)

name_byte_printable : (b : ℕ) → is_attribute_name_byte b ≡ true → is_printable_playlist_byte b ≡ true
name_byte_printable b h = grind (arith, nat_tests)

name_is_clean : (name : List ℕ) → is_name name ≡ true → Clean name
name_is_clean name h = clean_printable name (all_from is_attribute_name_byte is_printable_playlist_byte name (and_parts _ _ h).1 name_byte_printable)

value_is_clean : (quoted : Bool) (value : List ℕ) → value_fits quoted value ≡ true → Clean (value_spelling quoted value)
value_is_clean true value h = clean-append (34 ∷ []) (value ++ 34 ∷ []) (clean_printable _ refl) (clean-append value (34 ∷ []) (is_is_clean value (and_parts _ _ h).0) (clean_printable _ refl))
value_is_clean false value h = is_is_clean value (and_parts _ _ h).0

spelling_is_clean : (pair : Pair) → pair_fits pair ≡ true → Clean (44 ∷ pair_spelling pair)
spelling_is_clean pair h =
    let a : (is_name pair.name ≡ true) × (value_fits pair.quoted pair.value ≡ true) = and_parts _ _ h in
    clean-append (44 ∷ pair.name) (61 ∷ value_spelling pair.quoted pair.value) (clean-append (44 ∷ []) pair.name (clean_printable _ refl) (name_is_clean pair.name a.0))
    (clean-append (61 ∷ []) (value_spelling pair.quoted pair.value) (clean_printable _ refl) (value_is_clean pair.quoted pair.value a.1))

carried_clean : (pairs : List Pair) → list_all pair_fits pairs ≡ true → Clean (after_commas (carried pairs))
carried_clean [] h = clean_printable [] refl
carried_clean (pair ∷ pairs) h =
    let a : (pair_fits pair ≡ true) × (list_all pair_fits pairs ≡ true) = and_parts _ _ h in
    step (not (is_key_attribute pair)) (carried pairs) (spelling_is_clean pair a.0) (carried_clean pairs a.1)
  where
    step : (b : Bool) (kept : List Pair) → Clean (44 ∷ pair_spelling pair) → Clean (after_commas kept) → Clean (after_commas (cond b (pair ∷ kept) kept))
    step true kept c g = clean-append (44 ∷ pair_spelling pair) (after_commas kept) c g
    step false kept c g = g

pub carried_fit : (pairs : List Pair) → pairs_fit pairs ≡ true → other_attributes_are_writable (after_commas (carried pairs)) ≡ true
carried_fit pairs h = grind (arith, and_parts, and_from, clean_is, carried_clean, others_are)
