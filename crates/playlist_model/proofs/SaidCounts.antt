-- How many lines pass a test, and whether one does.
use Rattle.std.proofs.Common.{◌≡◌, ℕ, ◌+◌, ◌<◌, Bool, true, false, cond, List, [], ◌∷◌, refl, arith}
use Rattle.std.specs.Prelude.{◌||◌}
use Rattle.playlist_model.specs.Said.{Said}
use Rattle.playlist_model.specs.LookBack.{count}
use Rattle.playlist_model.specs.Reading.{has}

none_step : (b any : Bool) (n : ℕ) → (any ≡ false → n ≡ 0) → (b || any) ≡ false → cond b (n + 1) n ≡ 0
none_step true any n ih h = cc
none_step false any n ih h = ih h

pub none_counted : (test : Said → Bool) (before : List Said) → has test before ≡ false → count test before ≡ 0
none_counted test [] h = refl
none_counted test (said ∷ before) h = grind (arith, none_counted test before)

some_step : (b any : Bool) (n : ℕ) → (any ≡ true → 0 < n) → (b || any) ≡ true → 0 < cond b (n + 1) n
some_step true any n ih h = omega arith
some_step false any n ih h = ih h

pub some_counted : (test : Said → Bool) (before : List Said) → has test before ≡ true → 0 < count test before
some_counted test [] h = cc
some_counted test (said ∷ before) h = grind (arith, some_counted test before)

by : (any : Bool) (n : ℕ) → (any ≡ false → n ≡ 0) → (any ≡ true → 0 < n) → (n ≡ 0 → any ≡ false) × (0 < n → any ≡ true)
by true n f g = (λ h. let some = g refl in absurd (omega (arith, some, h)), λ h. refl)
by false n f g = (λ h. refl, λ h. let none = f refl in absurd (omega (arith, none, h)))

both : (test : Said → Bool) (before : List Said) → (count test before ≡ 0 → has test before ≡ false) × (0 < count test before → has test before ≡ true)
both test before = grind (arith, none_counted, some_counted)

pub counted_none : (test : Said → Bool) (before : List Said) → count test before ≡ 0 → has test before ≡ false
counted_none test before = (both test before).0

pub counted_some : (test : Said → Bool) (before : List Said) → 0 < count test before → has test before ≡ true
counted_some test before = (both test before).1
