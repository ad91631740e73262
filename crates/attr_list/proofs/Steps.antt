-- One attribute is read from the front of a text.
use Rattle.std.proofs.Common.{◌≡◌, ◌≢◌, ℕ, ◌+◌, ◌-◌, ◌≤◌, Bool, true, false, cond, List, [], ◌∷◌, ◌++◌, length, refl, ap, sym, ◌∙◌, arith, append_assoc, length-append, Ok, Err, Option}
use Rattle.std.specs.List.{list_any}
use Rattle.std.proofs.lemmas.Bool.{and_parts, not-true, eqb-true}
use Rattle.std.proofs.lemmas.List.{take_at}
use Rattle.attr_list.specs.declared.AttrFault.{AttrFault}
use Rattle.attr_list.specs.declared.AttrFault.TheVariants.{Twice}
use Rattle.attr_list.specs.Attributes.{Pair, is_quote, is_name, is_value, is_pair, is_named, is_full, value_spelling, pair_spelling, pieces, quoted_value, value_pair, pair_of_value, pair_of, pairs_from, add_pair, spans_from}
use Rattle.attr_list.specs.Scanning.{first_piece}
use Rattle.attr_list.specs.Inner.Scanning.{ends_attribute_pair, StartsWithName, IsValued, HasValueFault, StartsWithPair}
use Rattle.attr_list.proofs.Cuts.{position_at, before_at, after_at, any_at}
use Rattle.attr_list.proofs.Pieces.{first_named, later_named, first_valued, later_valued, later_from, pieces_are, name_without_equals}

-- ---- a spelling is read as its value

quoted_read : (value : List ℕ) → list_any is_quote value ≡ false → quoted_value (value ++ 34 ∷ []) ≡ Ok value
quoted_read value h = grind (arith, any_at, length-append, position_at, take_at)

plain_read : (name value : List ℕ) → is_value false value ≡ true → pair_of_value name value ≡ Ok (record { name = name; value = value; quoted = false })
plain_read name value h = grind arith

pub value_read : (q : Bool) (name value : List ℕ) → is_value q value ≡ true → pair_of_value name (value_spelling q value) ≡ Ok (record { name = name; value = value; quoted = q })
value_read true name value h = ap (value_pair name true) (quoted_read value (not-true _ h))
value_read false name value h = plain_read name value h

-- ---- a piece that begins with a name and `=`

named_piece : (most : Option ℕ) (before : List Pair) (name rest : List ℕ) → is_name name ≡ true → is_full most (length before) ≡ false
    → pair_of most before (name ++ 61 ∷ rest) ≡ cond (list_any (is_named name) before) (Err Twice) (pair_of_value name rest)
named_piece most before name rest h room = grind (arith, after_at, any_at, before_at, name_without_equals)

pub named_twice : (most : Option ℕ) (before : List Pair) (text name rest : List ℕ) → StartsWithName text name rest → is_full most (length before) ≡ false → list_any (is_named name) before ≡ true → pair_of most before (first_piece text) ≡ Err Twice
named_twice most before text name rest h room twice = grind (arith, first_named, named_piece)

pub value_faulty : (most : Option ℕ) (before : List Pair) (text name rest : List ℕ) (fault : AttrFault) → StartsWithName text name rest → is_full most (length before) ≡ false → list_any (is_named name) before ≡ false → HasValueFault rest fault
    → pair_of most before (first_piece text) ≡ Err fault
value_faulty most before text name rest fault h room new bad = grind (arith, first_named, named_piece)

pub pair_read : (most : Option ℕ) (before : List Pair) (pair : Pair) → is_pair pair ≡ true → is_full most (length before) ≡ false → list_any (is_named pair.name) before ≡ false → pair_of most before (pair_spelling pair) ≡ Ok pair
pair_read most before pair h room new = grind (arith, named_piece, value_read)

pub starts_with_pair : (text name rest value after : List ℕ) (quoted : Bool) → StartsWithName text name rest → IsValued rest quoted value after → StartsWithPair text (record { name = name; value = value; quoted = quoted }) after
starts_with_pair text name rest value after quoted h v = grind (arith, append_assoc)

-- ---- the text goes on after a pair

pub first_pair : (text : List ℕ) (pair : Pair) (after : List ℕ) → StartsWithPair text pair after → first_piece text ≡ pair_spelling pair
first_pair text pair after s = grind (arith, append_assoc, first_named, first_valued)

later_pair : (text : List ℕ) (pair : Pair) (after : List ℕ) → StartsWithPair text pair after → later_from false text ≡ later_from false after
later_pair text pair after s = grind (arith, and_parts, append_assoc, later_named, later_valued)

pub pieces_of_pair : (text : List ℕ) (pair : Pair) (after : List ℕ) → StartsWithPair text pair after → pieces text ≡ pair_spelling pair ∷ later_from false after
pieces_of_pair text pair after s = pieces_are false text ∙ ap (λ f. f ∷ later_from false text) (first_pair text pair after s) ∙ ap (λ l. pair_spelling pair ∷ l) (later_pair text pair after s)

pub read_on : (most : Option ℕ) (before : List Pair) (text : List ℕ) (pair : Pair) (after next : List ℕ) → StartsWithPair text pair after → after ≡ 44 ∷ next → pair_of most before (pair_spelling pair) ≡ Ok pair
    → pairs_from most before (pieces text) ≡ pairs_from most (before ++ pair ∷ []) (pieces next)
read_on most before text pair after next s e ok =
    let cut : pieces text ≡ pair_spelling pair ∷ pieces next = pieces_of_pair text pair after s ∙ ap (λ x. pair_spelling pair ∷ later_from false x) e in
    ap (pairs_from most before) cut ∙ ap (λ r. add_pair before r (λ pairs. pairs_from most pairs (pieces next))) ok

pub read_last : (most : Option ℕ) (before : List Pair) (text : List ℕ) (pair : Pair) (after : List ℕ) → StartsWithPair text pair after → after ≡ [] → pair_of most before (pair_spelling pair) ≡ Ok pair
    → pairs_from most before (pieces text) ≡ Ok (before ++ pair ∷ [])
read_last most before text pair after s e ok =
    let cut : pieces text ≡ pair_spelling pair ∷ [] = pieces_of_pair text pair after s ∙ ap (λ x. pair_spelling pair ∷ later_from false x) e in
    ap (pairs_from most before) cut ∙ ap (λ r. add_pair before r (λ pairs. pairs_from most pairs [])) ok

pub read_fault : (most : Option ℕ) (before : List Pair) (text : List ℕ) (fault : AttrFault) → pair_of most before (first_piece text) ≡ Err fault → pairs_from most before (pieces text) ≡ Err fault
read_fault most before text fault e = grind (arith, pieces_are)

pub ends_empty : (after : List ℕ) → ends_attribute_pair after ≡ true → ((rest : List ℕ) → after ≢ 44 ∷ rest) → after ≡ []
ends_empty [] h other = refl
ends_empty (b ∷ after) h other = absurd (other after (ap (λ c. c ∷ after) (eqb-true b 44 h)))

-- ---- places, counted from the end of the whole text

pub span_on : (whole text : List ℕ) (pair : Pair) (after next : List ℕ) (spans : List (ℕ × ℕ)) → StartsWithPair text pair after → after ≡ 44 ∷ next → length text ≤ length whole
    → spans ++ spans_from (length whole - length text) (pieces text) ≡ (spans ++ (length whole - length text, length whole - length after) ∷ []) ++ spans_from (length whole - length next) (pieces next)
span_on whole text pair after next spans s e within =
    let cut : pieces text ≡ pair_spelling pair ∷ pieces next = pieces_of_pair text pair after s ∙ ap (λ x. pair_spelling pair ∷ later_from false x) e in
    let size : length text ≡ length (pair_spelling pair) + length after = ap length s.spelled ∙ length-append (pair_spelling pair) after in
    let more : length after ≡ length next + 1 = ap length e ∙ omega arith in
    let end : length whole - length text + length (pair_spelling pair) ≡ length whole - length after = omega arith in
    let start : length whole - length text + length (pair_spelling pair) + 1 ≡ length whole - length next = omega arith in
    ap (λ ps. spans ++ spans_from (length whole - length text) ps) cut
    ∙ ap (λ m. spans ++ (length whole - length text, m) ∷ spans_from (length whole - length text + length (pair_spelling pair) + 1) (pieces next)) end
    ∙ ap (λ m. spans ++ (length whole - length text, length whole - length after) ∷ spans_from m (pieces next)) start
    ∙ sym (append_assoc spans ((length whole - length text, length whole - length after) ∷ []) (spans_from (length whole - length next) (pieces next)))

pub span_last : (whole text : List ℕ) (pair : Pair) (after : List ℕ) (spans : List (ℕ × ℕ)) → StartsWithPair text pair after → after ≡ [] → length text ≤ length whole
    → spans ++ spans_from (length whole - length text) (pieces text) ≡ spans ++ (length whole - length text, length whole - length after) ∷ []
span_last whole text pair after spans s e within =
    let cut : pieces text ≡ pair_spelling pair ∷ [] = pieces_of_pair text pair after s ∙ ap (λ x. pair_spelling pair ∷ later_from false x) e in
    let size : length text ≡ length (pair_spelling pair) + length after = ap length s.spelled ∙ length-append (pair_spelling pair) after in
    let end : length whole - length text + length (pair_spelling pair) ≡ length whole - length after = omega arith in
    ap (λ ps. spans ++ spans_from (length whole - length text) ps) cut
    ∙ ap (λ m. spans ++ (length whole - length text, m) ∷ []) end
