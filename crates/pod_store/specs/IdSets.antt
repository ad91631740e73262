-- The IDs of a set, as it keeps them.
use Rattle.std.specs.Prelude.{ℕ, List, map}
use Rattle.std.specs.Borrow.{Bor}

abbrev pub borrowed_text : Bor (List ℕ) → List ℕ
borrowed_text text = text.now

abbrev pub texts_of : List (Bor (List ℕ)) → List (List ℕ)
texts_of texts = map borrowed_text texts
