-- Attribute lists, after RFC 8216, section 4.2.
use Rattle.std.specs.Prelude.{◌≡◌, ℕ, ◌+◌, Bool, true, false, not, ◌&&◌, ◌||◌, ◌==◌, nat_lt, nat_le, List, [], ◌∷◌, ◌++◌, map, take, drop, length, slice_range, Option, Some, None, Result, Ok, Err, bytes_eq, if◌then◌else◌, AllPairs, IsTrue, find, ◌≢◌}
use Rattle.std.specs.List.{list_all, list_any, position_or_len, join_with_byte, onto_first}
use Rattle.std.specs.Char.{is_ascii_digit, is_ascii_uppercase}
use Rattle.spec_words.specs.Bytes.{space, quote, comma, hyphen, equals}
use Rattle.attr_list.specs.declared.AttrFault.{AttrFault}
use Rattle.attr_list.specs.declared.AttrFault.TheVariants.{BadName, NoEquals, BadValue, OpenQuote, Twice, TooMany}

-- an attribute: its value is without quotes
pub record Pair : Type 0 where
  pub name : List ℕ
  pub value : List ℕ
  pub quoted : Bool

abbrev pub is_comma : ℕ → Bool
is_comma b = b == comma

abbrev pub is_equals : ℕ → Bool
is_equals b = b == equals

abbrev pub is_quote : ℕ → Bool
is_quote b = b == quote

-- ---- the grammar

abbrev pub is_attribute_name_byte : ℕ → Bool
is_attribute_name_byte b = is_ascii_uppercase b || is_ascii_digit b || b == hyphen

-- one or more of A to Z, 0 to 9 and `-`
abbrev pub is_name : List ℕ → Bool
is_name text = nat_lt 0 (length text) && list_all is_attribute_name_byte text

-- a comma, a quote or a space
abbrev pub ends_plain : ℕ → Bool
ends_plain b = is_comma b || is_quote b || b == space

-- no quote between quotes; else not empty, and no comma, quote or space
abbrev pub is_value : Bool → List ℕ → Bool
is_value true text = not (list_any is_quote text)
is_value false text = nat_lt 0 (length text) && not (list_any ends_plain text)

abbrev pub is_named : List ℕ → Pair → Bool
is_named name pair = bytes_eq name pair.name

-- `name=value` or `name="value"`
abbrev pub value_spelling : Bool → List ℕ → List ℕ
value_spelling true value = quote ∷ (value ++ quote ∷ [])
value_spelling false value = value

abbrev pub pair_spelling : Pair → List ℕ
pair_spelling pair = pair.name ++ (equals ∷ value_spelling pair.quoted pair.value)

abbrev pub IsPair : Pair → Type 0
IsPair pair = IsTrue (is_name pair.name) × IsTrue (is_value pair.quoted pair.value)

-- the spellings of the pairs with commas between them
abbrev pub attributes_text : List Pair → List ℕ
attributes_text pairs = join_with_byte comma (map pair_spelling pairs)

-- the text is the spellings of these pairs with commas between them, and no name comes twice
pub record IsAttributeList (text : List ℕ) (pairs : List Pair) : Type 0 where
  pub some : pairs ≢ []
  pub each : Rattle.std.specs.Prelude.All IsPair pairs
  pub names : AllPairs (λ a b. a.name ≢ b.name) pairs
  pub spelled : text ≡ attributes_text pairs

-- the same rules as tests: pairs that can be spelled, with names apart from each other's and those before
abbrev pub is_pair : Pair → Bool
is_pair pair = is_name pair.name && is_value pair.quoted pair.value

abbrev pub are_apart : List Pair → List Pair → Bool
are_apart before [] = true
are_apart before (pair ∷ later) = is_pair pair && not (list_any (is_named pair.name) before) && are_apart (before ++ pair ∷ []) later

abbrev pub are_attributes : List Pair → Bool
are_attributes pairs = are_apart [] pairs

-- ---- reading

-- the text cut at each comma that is not between quotes
abbrev pub pieces_from : Bool → List ℕ → List (List ℕ)
pieces_from quoted [] = [] ∷ []
pieces_from quoted (b ∷ bytes) =
    if is_comma b && not quoted then [] ∷ pieces_from false bytes
    else onto_first b (pieces_from (if is_quote b then not quoted else quoted) bytes)

abbrev pub pieces : List ℕ → List (List ℕ)
pieces text = pieces_from false text

-- the name of a piece, and what follows its `=`
abbrev pub piece_name : List ℕ → List ℕ
piece_name piece = take (position_or_len is_equals piece) piece

abbrev pub piece_value : List ℕ → List ℕ
piece_value piece = drop (position_or_len is_equals piece + 1) piece

abbrev pub has_equals : List ℕ → Bool
has_equals piece = list_any is_equals piece

-- the value that begins with a quote, after that quote: it runs to the next one
abbrev pub quoted_value : List ℕ → Result (List ℕ) AttrFault
quoted_value text =
    if not (list_any is_quote text) then Err OpenQuote
    else (if not (position_or_len is_quote text + 1 == length text) then Err BadValue
    else Ok (take (position_or_len is_quote text) text))

abbrev pub plain_value : List ℕ → Result (List ℕ) AttrFault
plain_value text = if is_value false text then Ok text else Err BadValue

abbrev pub value_pair : List ℕ → Bool → Result (List ℕ) AttrFault → Result Pair AttrFault
value_pair name quoted (Ok value) = Ok (record { name = name; value = value; quoted = quoted })
value_pair name quoted (Err e) = Err e

abbrev pub pair_of_value : List ℕ → List ℕ → Result Pair AttrFault
pair_of_value name [] = Err BadValue
pair_of_value name (b ∷ text) =
    if is_quote b then value_pair name true (quoted_value text)
    else value_pair name false (plain_value (b ∷ text))

-- whether so many are as many as the limit, if there is one
abbrev pub is_full : Option ℕ → ℕ → Bool
is_full None count = false
is_full (Some most) count = nat_le most count

-- the pair that a piece says after the pairs before it, or its first fault
abbrev pub pair_of : Option ℕ → List Pair → List ℕ → Result Pair AttrFault
pair_of most before piece =
    if is_full most (length before) then Err TooMany
    else (if not (is_name (piece_name piece)) then Err BadName
    else (if not (has_equals piece) then Err NoEquals
    else (if list_any (is_named (piece_name piece)) before then Err Twice
    else pair_of_value (piece_name piece) (piece_value piece))))

abbrev pub add_pair : List Pair → Result Pair AttrFault → (List Pair → Result (List Pair) AttrFault) → Result (List Pair) AttrFault
add_pair before (Ok pair) next = next (before ++ pair ∷ [])
add_pair before (Err e) next = Err e

-- the pairs of the pieces, or the fault of the first faulty one
abbrev pub pairs_from : Option ℕ → List Pair → List (List ℕ) → Result (List Pair) AttrFault
pairs_from most before [] = Ok before
pairs_from most before (piece ∷ later) = add_pair before (pair_of most before piece) (λ pairs. pairs_from most pairs later)

-- the attributes of a text, of at most so many, or the first fault
abbrev pub attributes_of : Option ℕ → List ℕ → Result (List Pair) AttrFault
attributes_of most text = pairs_from most [] (pieces text)

abbrev pub attribute : List Pair → List ℕ → Option Pair
attribute pairs name = find (is_named name) pairs

-- where each piece begins and ends, with one byte between two
abbrev pub spans_from : ℕ → List (List ℕ) → List (ℕ × ℕ)
spans_from start [] = []
spans_from start (piece ∷ later) = (start, start + length piece) ∷ spans_from (start + length piece + 1) later

-- the slices of a text at these places
abbrev pub slices_at : List ℕ → List (ℕ × ℕ) → List (List ℕ)
slices_at text spans = map (λ span. slice_range text span.0 span.1) spans
