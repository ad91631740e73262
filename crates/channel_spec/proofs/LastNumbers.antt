-- Numbers only rise.
use Rattle.std.proofs.Common.{◌≡◌, ℕ, ◌^◌, Bool, true, false, ◌&&◌, nat_lt, [], ◌∷◌, refl, arith}
use Rattle.channel_spec.specs.LiveLaws.{NewestFits}

abbrev words : ℕ → ℕ → Bool
words media discontinuity = nat_lt media (2 ^ 64) && nat_lt discontinuity (2 ^ 64)

absorbs : (a b : Bool) → (a ≡ true → b ≡ true) → (a && b) ≡ a
absorbs true b h = h refl
absorbs false b h = refl

pub newest_fits : NewestFits
newest_fits first p [] = absorbs _ true (λ e. refl)
newest_fits first p (q ∷ before) = grind (arith, newest_fits first q before)
