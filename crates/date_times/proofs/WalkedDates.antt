-- One step of the walk over years and months, and the date that they find.
use Rattle.std.proofs.Common.{◌≡◌, ℕ, zero, suc, ◌+◌, ◌-◌, ◌%◌, ◌<◌, ◌≤◌, [], ◌∷◌, ◌++◌, refl, arith, append-nil}
use Rattle.std.proofs.lemmas.Bool.{lt-ltb, cond-true}
use Rattle.date_times.specs.Instant.{calendar_days_in_month}
use Rattle.date_times.proofs.WrittenDigits.{two_left}
use Rattle.date_times.specs.Times.{calendar_days_in_year, year_after_days, month_after_days, date_at}
use Rattle.date_times.specs.Digits.{fixed_digits}

pub year_none : (turns year days : ℕ) → turns ≡ 0 → year_after_days turns year days ≡ (year, days)
unfolding year_after_days
year_none turns year days e = rw e refl

pub year_stop : (turns year days : ℕ) → days < calendar_days_in_year year → year_after_days turns year days ≡ (year, days)
unfolding year_after_days
year_stop zero year days h = refl
year_stop (suc turns) year days h = cond-true _ _ _ (lt-ltb _ _ h)

pub year_more : (turns year days : ℕ) → (turns ≡ 0 → ⊥) → calendar_days_in_year year ≤ days → year_after_days turns year days ≡ year_after_days (turns - 1) (year + 1) (days - calendar_days_in_year year)
unfolding year_after_days
year_more turns year days n h = grind arith

pub month_none : (turns year month days : ℕ) → turns ≡ 0 → month_after_days turns year month days ≡ (month, days)
unfolding month_after_days
month_none turns year month days e = rw e refl

pub month_stop : (turns year month days : ℕ) → days < calendar_days_in_month year month → month_after_days turns year month days ≡ (month, days)
unfolding month_after_days
month_stop zero year month days h = refl
month_stop (suc turns) year month days h = cond-true _ _ _ (lt-ltb _ _ h)

pub month_more : (turns year month days : ℕ) → (turns ≡ 0 → ⊥) → calendar_days_in_month year month ≤ days → month_after_days turns year month days ≡ month_after_days (turns - 1) year (month + 1) (days - calendar_days_in_month year month)
unfolding month_after_days
month_more turns year month days n h = grind arith

-- a date in the parts in which it is written
pub date_parts : (days : ℕ) (year month : ℕ × ℕ) → year ≡ year_after_days 300 1900 days → month ≡ month_after_days 12 year.0 1 year.1
    → fixed_digits 10 4 year.0 ++ (45 ∷ [] ++ (fixed_digits 10 2 month.0 ++ (45 ∷ [] ++ fixed_digits 10 2 ((month.1 + 1) % 100)))) ≡ date_at days
date_parts days year month y m = grind (arith, append-nil, two_left)
