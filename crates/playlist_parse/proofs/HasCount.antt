-- Whether some line passes, and how many do.
use Rattle.std.proofs.Common.{◌≡◌, ◌+◌, Bool, true, false, cond, List, [], ◌∷◌, refl, arith, ℕ}
use Rattle.std.specs.Prelude.{nat_lt, ◌||◌}
use Rattle.std.specs.List.{list_any}
use Rattle.std.proofs.lemmas.Bool.Decides.{nat_tests}
use Rattle.playlist_model.specs.Said.{Said}
use Rattle.playlist_model.specs.LookBack.{count}

more : (n : ℕ) → nat_lt 0 (n + 1) ≡ true
more n = grind (arith, nat_tests)

step : (b : Bool) (n : ℕ) (any : Bool) → nat_lt 0 n ≡ any → nat_lt 0 (cond b (n + 1) n) ≡ (b || any)
step true n any h = more n
step false n any h = h

-- some line passes exactly if more than none do
pub has_count : (p : Said → Bool) (before : List Said) → nat_lt 0 (count p before) ≡ list_any p before
has_count p [] = refl
has_count p (said ∷ before) = grind (arith, has_count p before)
