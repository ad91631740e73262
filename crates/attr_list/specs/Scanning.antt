-- The front of a text that is cut into attributes: its first piece (RFC 8216, 4.2).
use Rattle.std.specs.Prelude.{ℕ, Bool, false, not, ◌&&◌, List, [], ◌∷◌, if◌then◌else◌}
use Rattle.attr_list.specs.Attributes.{is_comma, is_quote}

-- what stands before the first comma that is not between quotes
abbrev pub first_from : Bool → List ℕ → List ℕ
first_from quoted [] = []
first_from quoted (b ∷ bytes) =
    if is_comma b && not quoted then [] else b ∷ first_from (if is_quote b then not quoted else quoted) bytes

abbrev pub first_piece : List ℕ → List ℕ
first_piece text = first_from false text
