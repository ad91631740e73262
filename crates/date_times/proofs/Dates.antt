-- Days, months and years.
use Rattle.std.proofs.Common.{◌≡◌, ℕ, zero, suc, ◌+◌, ◌-◌, ◌<◌, ◌≤◌, Bool, true, false, cond, refl, ap, arith}
use Rattle.std.specs.Prelude.{◌==◌, nat_lt}
use Rattle.std.proofs.lemmas.Bool.{ltb-true, ltb-false, ne_eqb, cond-false}
use Rattle.date_times.specs.Instant.{is_leap_year, calendar_days_in_month, days_before_month, days_before_year}
use Rattle.date_times.specs.Times.{calendar_days_in_year, year_after_days, month_after_days}

regroup : (y a b : ℕ) → (y + 1) + a ≡ y + (1 + a)
regroup y a b = omega arith

pub year_step : (y : ℕ) → days_before_year (y + 1) ≡ days_before_year y + calendar_days_in_year y
year_step y = grind arith

-- a year, and a day of it
pub record InYear (from turns days : ℕ) (found : ℕ × ℕ) : Type 0 where
  pub day : found.1 < calendar_days_in_year found.0
  pub low : from ≤ found.0
  pub high : found.0 < from + turns
  pub same : days_before_year found.0 + found.1 ≡ days_before_year from + days

year_turn : (b : Bool) (turns y days : ℕ) → nat_lt days (calendar_days_in_year y) ≡ b → (calendar_days_in_year y ≤ days → InYear (y + 1) turns (days - calendar_days_in_year y) (year_after_days turns (y + 1) (days - calendar_days_in_year y)))
    → InYear y (suc turns) days (cond b (y, days) (year_after_days turns (y + 1) (days - calendar_days_in_year y)))
year_turn b turns y days e next = grind arith

pub in_year : (turns y days : ℕ) → days_before_year y + days < days_before_year (y + turns) → InYear y turns days (year_after_days turns y days)
unfolding year_after_days
in_year zero y days h = grind arith
in_year (suc turns) y days h =
    year_turn (nat_lt days (calendar_days_in_year y)) turns y days refl (λ l. in_year turns (y + 1) (days - calendar_days_in_year y)
    (let s = year_step y in let e : days_before_year (y + suc turns) ≡ days_before_year (y + 1 + turns) = ap days_before_year (omega arith) in omega (arith, s, e, l, h)))

-- ---- months

year_months_by : (b : Bool) (y : ℕ) → is_leap_year y ≡ b → days_before_month y 13 ≡ cond b 366 365
year_months_by true y e = rw e refl
year_months_by false y e = rw e refl

pub year_months : (y : ℕ) → days_before_month y 13 ≡ calendar_days_in_year y
year_months y = year_months_by (is_leap_year y) y refl

zero_month : (m : ℕ) → 1 ≤ m → (m == 0) ≡ false
zero_month m h = ne_eqb m 0 (λ e. omega arith)

month_step : (y m : ℕ) → 1 ≤ m → days_before_month y (suc m) ≡ days_before_month y m + calendar_days_in_month y m
month_step y m h = ap (λ x. days_before_month y m + x) (cond-false _ _ _ (zero_month m h))

-- a month, and a day of it
pub record InMonth (year from turns days : ℕ) (found : ℕ × ℕ) : Type 0 where
  pub day : found.1 < calendar_days_in_month year found.0
  pub low : from ≤ found.0
  pub high : found.0 < from + turns
  pub same : days_before_month year found.0 + found.1 ≡ days_before_month year from + days

month_turn : (b : Bool) (turns y m days : ℕ) → 1 ≤ m → nat_lt days (calendar_days_in_month y m) ≡ b → (calendar_days_in_month y m ≤ days → InMonth y (m + 1) turns (days - calendar_days_in_month y m) (month_after_days turns y (m + 1) (days - calendar_days_in_month y m)))
    → InMonth y m (suc turns) days (cond b (m, days) (month_after_days turns y (m + 1) (days - calendar_days_in_month y m)))
month_turn b turns y m days h e next = grind (arith, ltb-false, ltb-true)

pub in_month : (turns y m days : ℕ) → 1 ≤ m → days_before_month y m + days < days_before_month y (m + turns) → InMonth y m turns days (month_after_days turns y m days)
unfolding month_after_days
in_month zero y m days h s = grind arith
in_month (suc turns) y m days h s =
    month_turn (nat_lt days (calendar_days_in_month y m)) turns y m days h refl (λ l. in_month turns y (m + 1) (days - calendar_days_in_month y m) (omega arith)
    (let t = month_step y m h in let k : m + 1 ≡ suc m = omega arith in let one : days_before_month y (m + 1) ≡ days_before_month y (suc m) = ap (days_before_month y) k in
    let j : m + suc turns ≡ m + 1 + turns = omega arith in let e : days_before_month y (m + suc turns) ≡ days_before_month y (m + 1 + turns) = ap (days_before_month y) j in omega (arith, t, one, e, l, s)))
