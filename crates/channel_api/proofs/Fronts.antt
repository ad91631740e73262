-- If the front of a path can't be cut off, no name comes after it.
use Rattle.std.proofs.Common.{◌≡◌, ℕ, ◌≤◌, List, length, drop, false, arith, take_all, length-drop, ◌==◌}
use Rattle.std.specs.Prelude.{Option, MatchOption}
use Rattle.std.specs.Borrow.{Bor}
use Rattle.std.specs.List.{before_first}
use Rattle.std.specs.Str.{IsCharBoundary}
use Rattle.std.specs.Str.Pattern.{GetsRange}
use Rattle.std.proofs.lemmas.Bool.{ne_eqb}
use Rattle.std.proofs.lemmas.Str.{IsCharBoundary-end}
use Rattle.channel_api.specs.Routes.{is_channel_name, channel_name_in_route}

no_slash : (b : ℕ) → 128 ≤ b → (b == 47) ≡ false
no_slash b high = ne_eqb b 47 (λ e. omega arith)

-- nor has what can't be cut off: it is empty, or begins in the midst of a character
no_name : (path rest : List ℕ) → drop 10 path ≡ rest → (10 ≤ length path → IsCharBoundary path 10 → ⊥) → is_channel_name (before_first (λ b. b == 47) rest) ≡ false
no_name path rest e uncut = grind arith

-- what after_front promises, of what the call that cuts gives
pub cut : (path : List ℕ) (r : Option (Bor (List ℕ))) → GetsRange path 10 (length path) r → MatchOption r (is_channel_name (channel_name_in_route path) ≡ false) (λ rest. rest.now ≡ drop 10 path)
cut path r none = grind (arith, no_name, IsCharBoundary-end, take_all, length-drop)
