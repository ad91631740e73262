-- Instants in whole nanoseconds from 1970 in UTC, and the time texts that say them: EXT-X-PROGRAM-DATE-TIME (RFC 8216,
-- 4.3.2.6) and START-DATE and END-DATE of EXT-X-DATERANGE (4.3.2.7), after ISO 8601.
use Rattle.std.specs.Prelude.{◌≡◌, ℕ, zero, suc, ◌+◌, ◌-◌, ◌*◌, ◌/◌, ◌%◌, Bool, true, false, not, ◌&&◌, ◌||◌, ◌==◌, nat_lt, nat_le, List, [], ◌∷◌, take, drop, length, slice_index, ℤ, pos, ◌+ℤ◌, ◌-ℤ◌, ◌*ℤ◌, int_le, int_lt, Option, Some, None, if◌then◌else◌}
use Rattle.jiff_core.specs.Calendar.{IsEpochDay}
use Rattle.std.specs.List.{list_all, prefix_len}
use Rattle.std.specs.Char.{is_ascii_digit}
use Rattle.std.specs.Str.Parse.{digits_value}
use Rattle.spec_words.specs.Bytes.{plus, hyphen, point, colon, capital_t, capital_z}
use Rattle.fixed_duration.specs.Text.{value_of_digits, nine_digits}

-- the number that the digits from i up to j write
abbrev pub date_field : List ℕ → ℕ → ℕ → ℕ
date_field text i j = digits_value 10 (take (j - i) (drop i text))

-- whether digits stand from i up to j
abbrev pub are_date_digits : List ℕ → ℕ → ℕ → Bool
are_date_digits text i j = nat_le j (length text) && list_all is_ascii_digit (take (j - i) (drop i text))

-- ---- The Gregorian calendar

abbrev pub is_leap_year : ℕ → Bool
is_leap_year year = year % 4 == 0 && (not (year % 100 == 0) || year % 400 == 0)

abbrev pub calendar_days_in_month : ℕ → ℕ → ℕ
calendar_days_in_month year month =
    if month == 2 then (if is_leap_year year then 29 else 28)
    else (if month == 4 || month == 6 || month == 9 || month == 11 then 30 else 31)

-- the days of a year before this month, where January is 1
abbrev pub days_before_month : ℕ → ℕ → ℕ
days_before_month year zero = 0
days_before_month year (suc month) = days_before_month year month + (if month == 0 then 0 else calendar_days_in_month year month)

-- the days from the first of January of year 0 to that of this year
abbrev pub days_before_year : ℕ → ℕ
days_before_year year = 365 * year + (year + 3) / 4 + (year + 399) / 400 - (year + 99) / 100

-- the days from the first of January of year 0 to this day
abbrev pub calendar_day_number : ℕ → ℕ → ℕ → ℕ
calendar_day_number year month day = days_before_year year + days_before_month year month + (day - 1)

abbrev pub is_day : ℕ → ℕ → ℕ → Bool
is_day year month day = nat_le 1 month && nat_le month 12 && nat_le 1 day && nat_le day (calendar_days_in_month year month)

-- ---- The parts of a time text

-- `YYYY-MM-DD`
abbrev pub has_date_form : List ℕ → Bool
has_date_form text = are_date_digits text 0 4 && slice_index text 4 == hyphen && are_date_digits text 5 7 && slice_index text 7 == hyphen && are_date_digits text 8 10

-- the same, and a day of the calendar
abbrev pub is_date : List ℕ → Bool
is_date text = has_date_form text && is_day (date_field text 0 4) (date_field text 5 7) (date_field text 8 10)

-- a date stands at the front, and its day is so many days from 1970, which is day 719,528
abbrev pub IsDayOf : List ℕ → ℤ → Type 0
IsDayOf text day = (is_date text ≡ true) × (day +ℤ pos 719528 ≡ pos (calendar_day_number (date_field text 0 4) (date_field text 5 7) (date_field text 8 10))) × IsEpochDay day

abbrev pub is_time_of_day : ℕ → ℕ → ℕ → Bool
is_time_of_day hour minute second = nat_lt hour 24 && nat_lt minute 60 && nat_lt second 60

-- `hh:mm:ss` after the `T`
abbrev pub has_clock_form : List ℕ → Bool
has_clock_form text =
    are_date_digits text 11 13 && slice_index text 13 == colon && are_date_digits text 14 16 && slice_index text 16 == colon && are_date_digits text 17 19

-- the same, and a time of day
abbrev pub is_clock : List ℕ → Bool
is_clock text = has_clock_form text && is_time_of_day (date_field text 11 13) (date_field text 14 16) (date_field text 17 19)

-- the seconds from year 0 of the date and time of day at the front
abbrev pub seconds_at : List ℕ → ℕ
seconds_at text =
    calendar_day_number (date_field text 0 4) (date_field text 5 7) (date_field text 8 10) * 86400 + date_field text 11 13 * 3600 + date_field text 14 16 * 60 + date_field text 17 19

-- how many bytes a point and the digits after it have, and none without a point
abbrev pub second_fraction_length : List ℕ → ℕ
second_fraction_length text = if slice_index text 0 == point then prefix_len is_ascii_digit (drop 1 text) + 1 else 0

-- no fraction, or a point with 1 to 9 digits
abbrev pub is_second_fraction : ℕ → Bool
is_second_fraction len = len == 0 || (nat_le 2 len && nat_le len 10)

-- the nanoseconds of the digits after the point
abbrev pub fraction_nanos : List ℕ → ℕ
fraction_nanos digits = value_of_digits (nine_digits digits)

-- seconds east of UTC: `hh:mm`, `hhmm` or `hh` after the sign
abbrev pub zone_offset_seconds : List ℕ → Option ℕ
zone_offset_seconds text =
    let minutes = if length text == 5 && slice_index text 2 == colon then drop 3 text else drop 2 text in
    if are_date_digits text 0 2 && nat_lt (date_field text 0 2) 24 && list_all is_ascii_digit minutes && nat_lt (digits_value 10 minutes) 60
    && (length text == 2 || length text == 4 || (length text == 5 && slice_index text 2 == colon))
    then Some (date_field text 0 2 * 3600 + digits_value 10 minutes * 60) else None

abbrev pub signed_offset : Bool → Option ℕ → Option ℤ
signed_offset west None = None
signed_offset west (Some seconds) = Some (if west then pos 0 -ℤ pos seconds else pos seconds)

-- seconds east of UTC: `Z`, an offset after `+` or `-`, or nothing for UTC
abbrev pub zone_offset_of : List ℕ → Option ℤ
zone_offset_of [] = Some (pos 0)
zone_offset_of (b ∷ text) =
    if b == capital_z && length text == 0 then Some (pos 0)
    else (if b == plus then signed_offset false (zone_offset_seconds text)
    else (if b == hyphen then signed_offset true (zone_offset_seconds text) else None))

-- ---- The range

-- 1900-01-01T00:00:00Z
abbrev pub first_instant : ℤ
first_instant = pos 0 -ℤ pos 2208988800000000000

-- 2200-01-01T00:00:00Z
abbrev pub end_of_instants : ℤ
end_of_instants = pos 7258118400000000000

abbrev pub in_range : ℤ → Bool
in_range instant = int_le first_instant instant && int_lt instant end_of_instants

abbrev pub if_in_range : ℤ → Option ℤ
if_in_range instant = if in_range instant then Some instant else None

-- of seconds from year 0, whose first day is 62,167,219,200 seconds before that of 1970
abbrev pub nanos_from_1970 : ℕ → ℕ → ℤ → ℤ
nanos_from_1970 seconds nanos offset = (pos seconds -ℤ pos 62167219200 -ℤ offset) *ℤ pos 1000000000 +ℤ pos nanos

abbrev pub instant_of_seconds : ℕ → ℕ → Option ℤ → Option ℤ
instant_of_seconds seconds nanos None = None
instant_of_seconds seconds nanos (Some offset) = if_in_range (nanos_from_1970 seconds nanos offset)

-- the instant that a text says, in range
abbrev pub instant_of : List ℕ → Option ℤ
instant_of text =
    let rest = drop 19 text in
    let len = second_fraction_length rest in
    if is_date text && slice_index text 10 == capital_t && is_clock text && is_second_fraction len
    then instant_of_seconds (seconds_at text) (fraction_nanos (drop 1 (take len rest))) (zone_offset_of (drop len rest)) else None
