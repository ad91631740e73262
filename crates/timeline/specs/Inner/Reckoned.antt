-- What proofs and inner functions say with the definitions of `Reckoned`.
use Rattle.timeline.specs.Reckoned.{reckoned, stack_of}
use Rattle.std.specs.Prelude.{◌≡◌, ℤ, Bool, List, ◌++◌, Option, is_none}
use Rattle.playlist_model.specs.Segments.{Segment}

-- some of the last segments are reckoned
pub record Walked (segments rest : List Segment) (stack : List (Option ℤ)) (after : Option ℤ) : Type 0 where
  pub later : List Segment
  pub whole : rest ++ later ≡ segments
  pub stack_is : stack ≡ stack_of later
  pub after_is : after ≡ reckoned later

abbrev pub is_beginning_unstated : Segment → Bool
is_beginning_unstated s = is_none s.program_date_time
