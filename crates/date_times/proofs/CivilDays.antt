-- The calendar of the definitions is that of the `jiff` crates.
use Rattle.std.proofs.Common.{◌≡◌, ℕ, zero, suc, ◌+◌, ◌≤◌, true, refl, ap, arith, ℤ, pos, ◌+ℤ◌}
use Rattle.std.proofs.lemmas.Bool.{ne_eqb}
use Rattle.jiff_core.specs.Calendar.{days_of_months, day_count, days_from_civil, IsDate}
use Rattle.jiff_core.proofs.SignedLemmas.{signed_arith}
use Rattle.jiff_core.proofs.CalendarLemmas.{day_count-epoch, days_from_civil-day_count, day_count-day_of_year, day_count-next_year}
use Rattle.date_times.specs.Instant.{is_day, days_before_month, days_before_year, calendar_day_number}
use Rattle.date_times.proofs.Dates.{year_step}

-- the days of the first so many months
months : (y n : ℕ) → days_of_months (pos y) n ≡ days_before_month y (suc n)
unfolding days_of_months
months y zero = refl
months y (suc n) = grind (arith, months y n, ne_eqb)

-- the first day of a year
first_day : (y : ℕ) → day_count (pos y) 1 1 ≡ day_count (pos 0) 1 1 + days_before_year y
first_day zero = omega arith
first_day (suc y) =
    let next = day_count-next_year (pos y) (pos (suc y)) (omega (arith, signed_arith)) (omega (arith, signed_arith)) in
    let step = year_step y in
    let more : suc y ≡ y + 1 = omega arith in
    let same : days_before_year (suc y) ≡ days_before_year (y + 1) = ap days_before_year more in
    omega (arith, next, step, same, first_day y)

-- the number of a day
pub civil_day : (y m d : ℕ) → 1 ≤ m → 1 ≤ d → days_from_civil (pos y) m d +ℤ pos 719528 ≡ pos (calendar_day_number y m d)
civil_day y m d h g =
    grind (arith, day_count-day_of_year, day_count-epoch, days_from_civil-day_count, first_day, months, signed_arith)

-- what `jiff` finds
pub day_found : (y m d : ℕ) (zy zm zd dy z : ℤ) (dm dd : ℕ) → zy ≡ pos y → zm ≡ pos m → zd ≡ pos d → y ≤ 9999 → IsDate zy zm zd → (dy ≡ zy) × (pos dm ≡ zm) × (pos dd ≡ zd)
    → z ≡ days_from_civil dy dm dd → (is_day y m d ≡ true) × (z +ℤ pos 719528 ≡ pos (calendar_day_number y m d))
day_found y m d zy zm zd dy z dm dd ey em ed h is at e = grind (arith, civil_day)
