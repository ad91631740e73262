-- What stands at the ends of the list is what `stitched_on` says.
use Rattle.std.proofs.Common.{◌≡◌, ℕ, Bool, true, false, List, ◌++◌, refl, ap, arith}
use Rattle.std.specs.Prelude.{Option}
use Rattle.pod_store.specs.Marks.{Marked}
use Rattle.stitcher.specs.Paced.{PodRest, due_with, rest_pieces, stitched_with}
use Rattle.channel_spec.specs.Kept.{stitched_on}
use Rattle.channel_spec.specs.Inner.Kept.{ends_of}

whole_with : (a b : ℕ) (marked : List Marked) → due_with true a marked ≡ due_with true b marked
whole_with a b marked = grind arith

pub between_ends : (whole : Bool) (so_far : ℕ) (list : List Marked) (rest : Option PodRest) → stitched_on whole so_far list rest ≡ stitched_with (ends_of whole so_far rest) list
between_ends true n list rest = ap (λ xs. xs ++ rest_pieces rest) (whole_with n 0 list)
between_ends false n list rest = refl
