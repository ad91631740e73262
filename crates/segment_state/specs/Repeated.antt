-- A line of EXTINF that says again what the last one said.
use Rattle.std.specs.Prelude.{◌≡◌, ℕ, List, [], ◌∷◌, ◌++◌, Option, Some, None, Ok, ⊤, Result, codes}
use Rattle.std.specs.Str.Lines.{lines}
use Rattle.playlist_model.specs.declared.FaultKind.{FaultKind}
use Rattle.playlist_model.specs.Said.{duration, duration_said, duration_tag}
use Rattle.playlist_model.specs.Reading.{said_by_tag, limited}
use Rattle.segment_state.specs.Running.{Running, Takes}

-- a whole line of EXTINF with its line feed, which states this
pub record IsLineOf (line stated : List ℕ) : Type 0 where
  pub front : List ℕ
  pub ends : line ≡ front ++ 10 ∷ []
  pub is : lines line ≡ (codes "#EXTINF:" ++ stated) ∷ []

-- a whole line that states this duration and this title
pub record Restates (line : List ℕ) (own : ℕ × List ℕ) : Type 0 where
  pub stated : List ℕ
  pub is_line : IsLineOf line stated
  pub says : duration_said stated ≡ Ok (duration own.0 own.1)

-- the line that is kept, if one is, states what was said last
abbrev pub IsAgain : Option (List ℕ) → Option (ℕ × List ℕ) → Type 0
IsAgain None said = ⊤
IsAgain (Some line) None = ⊥
IsAgain (Some line) (Some own) = Restates line own

-- a line in front of what is left states the duration and the title that the next segment has
pub record IsTakenAgain (left later : List ℕ) (due : Option (ℕ × List ℕ)) : Type 0 where
  pub line : List ℕ
  pub own : ℕ × List ℕ
  pub is : left ≡ line ++ later
  pub due_is : due ≡ Some own
  pub restates : Restates line own

-- a line in front of what is left states a duration, and the state after it is this one
pub record IsRepeated (left later : List ℕ) (old new : Running) : Type 0 where
  pub line : List ℕ
  pub stated : List ℕ
  pub is : left ≡ line ++ later
  pub is_line : IsLineOf line stated
  pub takes :
      let done : Result (Unit {0}) FaultKind = Ok (record {}) in
      Takes (λ base before. said_by_tag limited base before duration_tag stated) old new done
