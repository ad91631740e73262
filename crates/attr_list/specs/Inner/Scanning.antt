-- What proofs and inner functions say with the definitions of `Scanning`.
use Rattle.attr_list.specs.Scanning.{first_piece}
use Rattle.std.specs.Prelude.{◌≡◌, ℕ, Bool, true, false, not, List, [], ◌∷◌, ◌++◌, Option, Some, None, Err, IsTrue, if◌then◌else◌}
use Rattle.spec_words.specs.Bytes.{equals}
use Rattle.attr_list.specs.declared.AttrFault.{AttrFault}
use Rattle.attr_list.specs.declared.AttrFault.TheVariants.{BadName, NoEquals}
use Rattle.attr_list.specs.Attributes.{Pair, is_comma, is_quote, is_name, is_value, is_pair, pair_spelling, piece_name, has_equals, value_spelling, pair_of_value}

-- a pair may end before this text: it is empty or begins with a comma
abbrev pub ends_attribute_pair : List ℕ → Bool
ends_attribute_pair [] = true
ends_attribute_pair (b ∷ bytes) = is_comma b

abbrev pub begins_quoted : List ℕ → Bool
begins_quoted [] = false
begins_quoted (b ∷ bytes) = is_quote b

-- the text is a name, `=` and the rest
abbrev pub StartsWithName : List ℕ → List ℕ → List ℕ → Type 0
StartsWithName text name rest = IsTrue (is_name name) × (text ≡ name ++ equals ∷ rest)

-- what is wrong with a piece before its value
abbrev pub name_fault : List ℕ → Option AttrFault
name_fault piece =
    if not (is_name (piece_name piece)) then Some BadName
    else (if not (has_equals piece) then Some NoEquals else None)

-- the text is a value's spelling and what follows it
abbrev pub IsValued : List ℕ → Bool → List ℕ → List ℕ → Type 0
IsValued text quoted value after =
    IsTrue (is_value quoted value) × (text ≡ value_spelling quoted value ++ after) × IsTrue (ends_attribute_pair after)

-- no value begins the text, and this is why
abbrev pub HasValueFault : List ℕ → AttrFault → Type 0
HasValueFault text fault = (name : List ℕ) → pair_of_value name (first_piece text) ≡ Err fault

-- the text is a pair's spelling and what follows it
pub record StartsWithPair (text : List ℕ) (pair : Pair) (after : List ℕ) : Type 0 where
  pub fits : IsTrue (is_pair pair)
  pub spelled : text ≡ pair_spelling pair ++ after
  pub ended : IsTrue (ends_attribute_pair after)
