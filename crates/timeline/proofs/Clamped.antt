-- Walking back over segments.
use Rattle.std.proofs.Common.{◌≡◌, List, [], ◌∷◌, ◌++◌, refl, ap, ℤ}
use Rattle.std.specs.Prelude.{Option, None}
use Rattle.playlist_model.specs.Segments.{Segment}
use Rattle.timeline.specs.Inner.Reckoned.{Walked}

pub begun : (segments : List Segment) (stack : List (Option ℤ)) → stack ≡ [] → Walked segments segments stack None
begun segments stack h = record { later = []; whole = after segments; stack_is = h; after_is = refl }
  where
    after : (xs : List Segment) → xs ++ [] ≡ xs
    after [] = refl
    after (x ∷ xs) = ap (λ ys. x ∷ ys) (after xs)
