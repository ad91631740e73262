-- How an instant is written: as a time text in UTC with `Z` (RFC 8216, 4.3.2.6).
use Rattle.std.specs.Prelude.{ℕ, zero, suc, ◌+◌, ◌-◌, ◌/◌, ◌%◌, ◌==◌, nat_lt, List, [], ◌∷◌, ◌++◌, ℤ, pos, negsuc, codes, if◌then◌else◌}
use Rattle.spec_words.specs.Bytes.{hyphen, point, colon, capital_t, capital_z}
use Rattle.date_times.specs.Instant.{is_leap_year, calendar_days_in_month}
use Rattle.date_times.specs.Digits.{fixed_digits}

-- nanoseconds from the first of 1900, 0 for what is before it
abbrev pub instant_from_1900 : ℤ → ℕ
instant_from_1900 (pos n) = n + 2208988800000000000
instant_from_1900 (negsuc n) = 2208988800000000000 - (n + 1)

abbrev pub calendar_days_in_year : ℕ → ℕ
calendar_days_in_year year = if is_leap_year year then 366 else 365

-- the year in which a day lies that is so many days after the first of this one, and which day of it; it lies in so many years
unfoldable pub year_after_days : ℕ → ℕ → ℕ → ℕ × ℕ
year_after_days zero year days = (year, days)
year_after_days (suc turns) year days =
    if nat_lt days (calendar_days_in_year year) then (year, days) else year_after_days turns (year + 1) (days - calendar_days_in_year year)

-- the same with months of a year
unfoldable pub month_after_days : ℕ → ℕ → ℕ → ℕ → ℕ × ℕ
month_after_days zero year month days = (month, days)
month_after_days (suc turns) year month days =
    if nat_lt days (calendar_days_in_month year month) then (month, days) else month_after_days turns year (month + 1) (days - calendar_days_in_month year month)

abbrev pub date_text : ℕ → ℕ → ℕ → List ℕ → List ℕ
date_text year month day rest = fixed_digits 10 4 year ++ hyphen ∷ (fixed_digits 10 2 month ++ hyphen ∷ (fixed_digits 10 2 day ++ rest))

abbrev pub clock_text : ℕ → List ℕ → List ℕ
clock_text seconds rest = fixed_digits 10 2 (seconds / 3600) ++ colon ∷ (fixed_digits 10 2 (seconds / 60 % 60) ++ colon ∷ (fixed_digits 10 2 (seconds % 60) ++ rest))

-- three decimals, or nine if three would lose something
abbrev pub decimals : ℕ → List ℕ
decimals nanos = if nanos % 1000000 == 0 then fixed_digits 10 3 (nanos / 1000000) else fixed_digits 10 9 nanos

-- the text of the instant so many nanoseconds after 1900
abbrev pub time_text_at : ℕ → List ℕ
time_text_at n =
    let year = year_after_days 300 1900 (n / 86400000000000) in let month = month_after_days 12 year.0 1 year.1 in
    date_text year.0 month.0 (month.1 + 1) (capital_t ∷ clock_text (n / 1000000000 % 86400) (point ∷ (decimals (n % 1000000000) ++ capital_z ∷ [])))

abbrev pub time_text : ℤ → List ℕ
time_text t = time_text_at (instant_from_1900 t)

-- the date so many days after the first of 1900
abbrev pub date_at : ℕ → List ℕ
date_at days = let year = year_after_days 300 1900 days in let month = month_after_days 12 year.0 1 year.1 in date_text year.0 month.0 (month.1 + 1) []

-- what stands before the seconds, so many minutes after the first of 1900
abbrev pub minute_text : ℕ → List ℕ
minute_text minute = date_at (minute / 1440) ++ capital_t ∷ (fixed_digits 10 2 (minute % 1440 / 60) ++ colon ∷ (fixed_digits 10 2 (minute % 60) ++ colon ∷ []))

-- what stands before an instant on its line
unfoldable pub time_tag : List ℕ
time_tag = codes "#EXT-X-PROGRAM-DATE-TIME:"
