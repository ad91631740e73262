-- What a reader answers of the first line.
use Rattle.std.specs.Prelude.{◌≢◌, ℕ, List, ◌∷◌, codes}
use Rattle.std.specs.Str.Lines.{lines}

-- the first line isn't EXTM3U (4.3.1.1)
abbrev pub HasNoHeader : List ℕ → Type 0
HasNoHeader text = (later : List (List ℕ)) → lines text ≢ (codes "#EXTM3U" ∷ later)
