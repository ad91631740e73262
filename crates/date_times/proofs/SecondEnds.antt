-- What stands after a time of day.
use Rattle.std.proofs.Common.{◌≡◌, ℕ, ◌+◌, ◌*◌, ◌-◌, true, [], ◌∷◌, ap, arith, ℤ, pos, Some}
use Rattle.std.specs.Prelude.{Option}
use Rattle.std.specs.Char.{is_ascii_digit}
use Rattle.std.proofs.lemmas.Bool.Decides.{nat_tests}
use Rattle.date_times.specs.Instant.{fraction_nanos}
use Rattle.date_times.specs.Inner.Instant.{second_end_of}

value : (a b c : ℕ) → is_ascii_digit a ≡ true → is_ascii_digit b ≡ true → is_ascii_digit c ≡ true → fraction_nanos (a ∷ (b ∷ (c ∷ []))) ≡ ((a - 48) * 100 + (b - 48) * 10 + (c - 48)) * 1000000
value a b c x y z = grind (arith, nat_tests)

in_utc : (n m : ℕ) → n ≡ m → ◌≡◌ {A = Option (ℕ × ℤ)} (Some (n, pos 0)) (Some (m, pos 0))
in_utc n m e = ap (λ k. Some (k, pos 0)) e

-- three decimals and `Z`
pub milliseconds : (a b c : ℕ) → is_ascii_digit a ≡ true → is_ascii_digit b ≡ true → is_ascii_digit c ≡ true → second_end_of (46 ∷ (a ∷ (b ∷ (c ∷ (90 ∷ []))))) ≡ Some (((a - 48) * 100 + (b - 48) * 10 + (c - 48)) * 1000000, pos 0)
milliseconds a b c x y z = rw (x, y, z) (in_utc _ _ (value a b c x y z))
