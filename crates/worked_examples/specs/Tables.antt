-- How worked values are stated: a table has a row for each input, with the value that was worked out by hand beside it.
use Rattle.std.specs.Prelude.{◌≡◌, List, map}

-- the definition gives the value of each row
abbrev pub HasValues : {A B : Type 0} → (A → B) → List (A × B) → Type 0
HasValues {A} {B} definition rows = map (λ (row : A × B). definition row.0) rows ≡ map (λ (row : A × B). row.1) rows
