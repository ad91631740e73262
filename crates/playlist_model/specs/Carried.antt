-- The attributes of a key tag that are carried as they stand (RFC 8216, section 4.3.2.4).
use Rattle.std.specs.Prelude.{ℕ, Bool, true, false, not, ◌&&◌, ◌||◌, List, [], ◌∷◌, Result, Ok, Err, None, codes, filter}
use Rattle.std.specs.List.{list_any, flat_map}
use Rattle.spec_words.specs.Bytes.{comma}
use Rattle.attr_list.specs.declared.AttrFault.{AttrFault}
use Rattle.attr_list.specs.Attributes.{Pair, attributes_of, is_comma, is_named, pair_spelling}

-- whether an attribute of EXT-X-KEY has a meaning of its own here
abbrev pub is_key_attribute : Pair → Bool
is_key_attribute pair =
    is_named (codes "METHOD") pair || is_named (codes "URI") pair || is_named (codes "IV") pair || is_named (codes "KEYFORMAT") pair

-- the others
abbrev pub carried : List Pair → List Pair
carried pairs = filter (λ pair. not (is_key_attribute pair)) pairs

-- attributes as they are spelled (4.2), each with a comma before it
abbrev pub after_commas : List Pair → List ℕ
after_commas pairs = flat_map (λ pair. comma ∷ pair_spelling pair) pairs

-- a list of which no attribute has a meaning of its own
abbrev pub is_carried : Result (List Pair) AttrFault → Bool
is_carried (Ok pairs) = not (list_any is_key_attribute pairs)
is_carried (Err e) = false

-- a text of such attributes: nothing, or a comma and a list (4.2), however long
abbrev pub are_others : List ℕ → Bool
are_others [] = true
are_others (b ∷ list) = is_comma b && is_carried (attributes_of None list)
