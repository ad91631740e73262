-- What proofs and inner functions say with the definitions of `StitchedSegments`.
use Rattle.std.specs.Prelude.{◌≡◌, ◌≤◌, ℕ, List, Some}
use Rattle.std.specs.List.{slice_get}
use Rattle.stitcher.specs.declared.marked.MarkedSegment.{MarkedSegment}
use Rattle.stitcher.specs.StitchedSegments.{KnowAgain}

-- each of these segments has the mark of the one that stands as many places before it as it says, which is one of these
pub record KnowAgainWithin (list : List MarkedSegment) : Type 0 where
  pub again : KnowAgain list
  pub within : (place : ℕ) (m : MarkedSegment) → slice_get list place ≡ Some m → m.again ≤ place
