-- A text that is handed out while it is made.
use Rattle.std.specs.Prelude.{◌≡◌, ℕ, ◌≤◌, List, ◌++◌, length, Option, Some, None, ⊤}

-- a sink's bytes grew by a text, all but this rest at its end, if they are known
abbrev pub TookAllBut : Option (List ℕ) → Option (List ℕ) → List ℕ → List ℕ → Type 0
TookAllBut None new rest text = ⊤
TookAllBut (Some old) None rest text = ⊥
TookAllBut (Some old) (Some new) rest text = (new ++ rest ≡ old ++ text) × (length old ≤ length new)
