-- The year and the month of a day, found by division.
use Rattle.std.proofs.Common.{◌≡◌, ℕ, zero, suc, ◌+◌, ◌-◌, ◌*◌, ◌/◌, ◌<◌, ◌≤◌, Bool, true, false, cond, refl, ap, sym, ◌∙◌, arith, inl, inr, subst}
use Rattle.std.proofs.lemmas.Bool.{cases_lt, and_parts, eqb-true, lt-ltb, le-ltb, cond-true, cond-false}
use Rattle.std.specs.Prelude.{◌==◌, ◌&&◌, nat_lt}
use Rattle.date_times.specs.Instant.{is_leap_year, calendar_days_in_month}
use Rattle.date_times.specs.Times.{calendar_days_in_year, year_after_days, month_after_days}
use Rattle.date_times.proofs.Dates.{in_year}

-- a pair by its parts
pub both : (p : ℕ × ℕ) (a b : ℕ) → a ≡ p.0 → b ≡ p.1 → (a, b) ≡ p
both p a b e f = ap (λ x. (x, b)) e ∙ ap (λ x. (p.0, x)) f

-- ---- years

-- the year of a day from 1901 to 2099
pub divided_year : (days : ℕ) → 365 ≤ days → days < 73049
    → (1901 + (4 * (days - 365) + 3) / 1461, days - 365 - 1461 * ((4 * (days - 365) + 3) / 1461) / 4) ≡ year_after_days 300 1900 days
divided_year days a h = grind (arith, in_year)

-- ---- months

-- years alike have the same months
same_months : (turns y z m days : ℕ) → is_leap_year y ≡ is_leap_year z → month_after_days turns y m days ≡ month_after_days turns z m days
unfolding month_after_days
same_months zero y z m days e = refl
same_months (suc turns) y z m days e = grind (arith, same_months turns y z (m + 1) (days - calendar_days_in_month z m) e)

-- the month of a day in a year whose February has 30 days, and which day of it
abbrev pub month_at : ℕ → ℕ
month_at even = (12 * even + 373) / 367

abbrev pub day_at : ℕ → ℕ
day_at even = even - (367 * month_at even - 362) / 12

-- a day of a year of so many days, counted as if February had 30
abbrev even_day : ℕ → ℕ → ℕ
even_day size days = cond (nat_lt (days + 306) size) days (days + 367 - size)

abbrev is_divided : ℕ → ℕ → ℕ → Bool
is_divided z size d = (month_after_days 12 z 1 d).0 == month_at (even_day size d) && (month_after_days 12 z 1 d).1 == day_at (even_day size d)

-- the days before this one are
abbrev are_divided : ℕ → ℕ → ℕ → Bool
are_divided z size zero = true
are_divided z size (suc d) = is_divided z size d && are_divided z size d

each : (z size n d : ℕ) → are_divided z size n ≡ true → d < n → is_divided z size d ≡ true
each z size zero d t h = absurd (omega arith)
each z size (suc n) d t h =
    let parts = and_parts (is_divided z size n) (are_divided z size n) t in
    elim (cases_lt d n) [
      | inl less ↦ each z size n d parts.1 less
      | inr same ↦ let e : n ≡ d = omega (arith, h, same) in subst (λ d. is_divided z size d ≡ true) e parts.0
    ]

leap_days : are_divided 2000 366 366 ≡ true
unfolding month_after_days
leap_days = refl

plain_days : are_divided 2001 365 365 ≡ true
unfolding month_after_days
plain_days = refl

of_year : (b : Bool) (y d : ℕ) → is_leap_year y ≡ b → d < cond b 366 365 → is_divided y (cond b 366 365) d ≡ true
of_year true y d e h =
    subst (λ p. (p.0 == month_at (even_day 366 d) && p.1 == day_at (even_day 366 d)) ≡ true) (sym (same_months 12 y 2000 1 d e)) (each 2000 366 366 d leap_days h)
of_year false y d e h =
    subst (λ p. (p.0 == month_at (even_day 365 d) && p.1 == day_at (even_day 365 d)) ≡ true) (sym (same_months 12 y 2001 1 d e)) (each 2001 365 365 d plain_days h)

found : (y d even : ℕ) → d < calendar_days_in_year y → even_day (calendar_days_in_year y) d ≡ even → (month_at even, day_at even) ≡ month_after_days 12 y 1 d
found y d even h e =
    let month = month_after_days 12 y 1 d in
    let parts = and_parts _ _ (of_year (is_leap_year y) y d refl h) in
    both month _ _ (ap month_at (sym e) ∙ sym (eqb-true _ _ parts.0)) (ap day_at (sym e) ∙ sym (eqb-true _ _ parts.1))

-- the month of a day that lies before the end of February
pub early_month : (y d : ℕ) → d < calendar_days_in_year y → d + 306 < calendar_days_in_year y → (month_at d, day_at d) ≡ month_after_days 12 y 1 d
early_month y d h l = found y d d h (cond-true _ _ _ (lt-ltb _ _ l))

-- and of one that lies after it
pub late_month : (y d : ℕ) → d < calendar_days_in_year y → calendar_days_in_year y ≤ d + 306 → (month_at (d + 367 - calendar_days_in_year y), day_at (d + 367 - calendar_days_in_year y)) ≡ month_after_days 12 y 1 d
late_month y d h l = found y d (d + 367 - calendar_days_in_year y) h (cond-false _ _ _ (le-ltb _ _ l))
