-- What holds of attribute lists (RFC 8216, section 4.2), whatever the text.
use Rattle.std.specs.Prelude.{◌≡◌, ◌≢◌, ◌↔◌, ℕ, ◌<◌, ◌≤◌, ◌^◌, decimal, true, List, [], map, length, Some, None, Ok, IsErr}
use Rattle.attr_list.specs.Numbers.{decimal_of}
use Rattle.attr_list.specs.Attributes.{Pair, IsAttributeList, are_attributes, attributes_text, attributes_of, pair_spelling, pieces, spans_from, slices_at}

-- without a limit, the pairs that the reading gives are those of the grammar
abbrev pub ReadsTheGrammar : Type 0
ReadsTheGrammar = (text : List ℕ) (pairs : List Pair) → (attributes_of None text ≡ Ok pairs) ↔ IsAttributeList text pairs

-- a text has at most one list
abbrev pub HasOneList : Type 0
HasOneList = (text : List ℕ) (a b : List Pair) → IsAttributeList text a → IsAttributeList text b → a ≡ b

-- pairs that can be spelled, with names apart, are read from their text
abbrev pub WrittenIsRead : Type 0
WrittenIsRead = (pairs : List Pair) → pairs ≢ [] → are_attributes pairs ≡ true → attributes_of None (attributes_text pairs) ≡ Ok pairs

-- up to the limit it changes nothing, not even the fault
abbrev pub WithinLimit : Type 0
WithinLimit = (most : ℕ) (text : List ℕ) → length (pieces text) ≤ most → attributes_of (Some most) text ≡ attributes_of None text

-- past the limit nothing is read
abbrev pub PastLimit : Type 0
PastLimit = (most : ℕ) (text : List ℕ) → most < length (pieces text) → IsErr (attributes_of (Some most) text)

-- so what is read with a limit is what is read without, if that is within it
abbrev pub LimitOnlyRefuses : Type 0
LimitOnlyRefuses = (most : ℕ) (text : List ℕ) (pairs : List Pair)
    → (attributes_of (Some most) text ≡ Ok pairs) ↔ ((attributes_of None text ≡ Ok pairs) × (length (pieces text) ≤ most))

-- each piece of a list is one attribute
abbrev pub PiecesAreAttributes : Type 0
PiecesAreAttributes = (text : List ℕ) (pairs : List Pair) → attributes_of None text ≡ Ok pairs → pieces text ≡ map pair_spelling pairs

-- the slices of a text at the places of its pieces are the pieces
abbrev pub SlicesArePieces : Type 0
SlicesArePieces = (text : List ℕ) → slices_at text (spans_from 0 (pieces text)) ≡ pieces text

-- a number that is written in decimal is read
abbrev pub DecimalsAreRead : Type 0
DecimalsAreRead = (n : ℕ) → n < 2 ^ 64 → decimal_of (decimal n) ≡ Some n
