-- What a sink took.
use Rattle.std.specs.Prelude.{◌≡◌, ℕ, ◌-◌, List, ◌++◌, take, length, Option, Some, None, ⊤}

-- its bytes grew by a front of the text, if they are known
abbrev pub TookFront : Option (List ℕ) → Option (List ℕ) → List ℕ → Type 0
TookFront None new text = ⊤
TookFront (Some old) None text = ⊥
TookFront (Some old) (Some new) text = new ≡ old ++ take (length new - length old) text
