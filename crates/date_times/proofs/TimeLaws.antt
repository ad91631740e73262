-- An instant that is written is read.
use Rattle.std.proofs.Common.{◌≡◌, ℕ, suc, ◌+◌, ◌-◌, ◌*◌, ◌/◌, ◌%◌, ◌^◌, ◌<◌, ◌≤◌, Bool, true, false, cond, List, [], ◌∷◌, ◌++◌, take, drop, length, replicate, refl, ap, sym, ◌∙◌, arith, subst, Some, None}
use Rattle.std.specs.Prelude.{◌==◌, nat_lt, nat_le, ℤ, pos, Option, slice_index}
use Rattle.std.specs.List.{list_all, prefix_len}
use Rattle.std.specs.Char.{is_ascii_digit}
use Rattle.std.specs.Str.Parse.{digits_value, digits_value_after}
use Rattle.std.proofs.lemmas.Bool.{and_parts, and_from, cond-true, lt-ltb, le-leb, eqb-true}
use Rattle.std.proofs.lemmas.Bool.Decides.{nat_tests}
use Rattle.std.proofs.lemmas.List.{take_at, drop_at}
use Rattle.date_times.specs.Instant.{date_field, are_date_digits, is_date, has_date_form, is_clock, has_clock_form, seconds_at, calendar_day_number, calendar_days_in_month, days_before_month, days_before_year, second_fraction_length, is_second_fraction, fraction_nanos, zone_offset_of, instant_of_seconds, instant_of, nanos_from_1970, in_range}
use Rattle.date_times.specs.Digits.{fixed_digits}
use Rattle.date_times.specs.Times.{instant_from_1900, year_after_days, month_after_days, date_text, decimals, time_text_at, time_text}
use Rattle.date_times.proofs.FixedDigits.{fixed, are_own}
use Rattle.date_times.proofs.Dates.{in_year, InYear, in_month, InMonth, year_months}

two : ℕ → List ℕ
two n = fixed_digits 10 2 n

-- a written number of so many digits reads as it
record Digits (k n : ℕ) : Type 0 where
  value : digits_value 10 (fixed_digits 10 k n) ≡ n
  all : list_all is_ascii_digit (fixed_digits 10 k n) ≡ true

digits : (k n : ℕ) → n < 10 ^ k → Digits k n
digits k n h = let f = fixed 10 k n (omega arith) (omega arith) h in record { value = f.value; all = are_own _ f.all }

-- the parts of a date and a time of day, in range
record InDay (year month day hour minute second : ℕ) : Type 0 where
  year_low : year < 10000
  month_low : 1 ≤ month
  month_high : month ≤ 12
  day_low : 1 ≤ day
  day_high : day ≤ calendar_days_in_month year month
  day_two : day < 100
  hours : hour < 24
  minutes : minute < 60
  seconds : second < 60

-- a number that stands at these places
record Stands (text : List ℕ) (i j n : ℕ) : Type 0 where
  is : date_field text i j ≡ n
  all : list_all is_ascii_digit (take (j - i) (drop i text)) ≡ true

after_stamp : List ℕ → ℕ → Option ℤ
after_stamp rest seconds = instant_of_seconds seconds (fraction_nanos (drop 1 (take (second_fraction_length rest) rest))) (zone_offset_of (drop (second_fraction_length rest) rest))

ok_digits : (text : List ℕ) (i j n : ℕ) → Stands text i j n → j ≤ length text → are_date_digits text i j ≡ true
ok_digits text i j n s h = and_from _ _ (le-leb j (length text) h) s.all

parts_read : (text : List ℕ) (year month day hour minute second : ℕ) → InDay year month day hour minute second → 19 ≤ length text
    → Stands text 0 4 year → Stands text 5 7 month → Stands text 8 10 day → Stands text 11 13 hour → Stands text 14 16 minute → Stands text 17 19 second
    → (slice_index text 4 == 45) ≡ true → (slice_index text 7 == 45) ≡ true → (slice_index text 10 == 84) ≡ true → (slice_index text 13 == 58) ≡ true → (slice_index text 16 == 58) ≡ true
    → is_second_fraction (second_fraction_length (drop 19 text)) ≡ true
    → instant_of text ≡ after_stamp (drop 19 text) (calendar_day_number year month day * 86400 + hour * 3600 + minute * 60 + second)
unfolding after_stamp
parts_read text year month day hour minute second h size y mo d hh mi s a b c e g f =
    let m1 : nat_le 1 (date_field text 5 7) ≡ true = le-leb _ _ (subst (λ x. 1 ≤ x) (sym mo.is) h.month_low) in
    let m2 : nat_le (date_field text 5 7) 12 ≡ true = le-leb _ _ (subst (λ x. x ≤ 12) (sym mo.is) h.month_high) in
    let d1 : nat_le 1 (date_field text 8 10) ≡ true = le-leb _ _ (subst (λ x. 1 ≤ x) (sym d.is) h.day_low) in
    let d2 : nat_le (date_field text 8 10) (calendar_days_in_month (date_field text 0 4) (date_field text 5 7)) ≡ true
    = le-leb _ _ (subst (λ x. x ≤ calendar_days_in_month (date_field text 0 4) (date_field text 5 7)) (sym d.is) (subst (λ x. day ≤ calendar_days_in_month x (date_field text 5 7)) (sym y.is) (subst (λ x. day ≤ calendar_days_in_month year x) (sym mo.is) h.day_high))) in
    let form : has_date_form text ≡ true = and_from _ _ (and_from _ _ (and_from _ _ (and_from _ _ (ok_digits text 0 4 year y (omega arith)) a) (ok_digits text 5 7 month mo (omega arith))) b) (ok_digits text 8 10 day d (omega arith)) in
    let date : is_date text ≡ true = and_from _ _ form (and_from _ _ (and_from _ _ (and_from _ _ m1 m2) d1) d2) in
    let h1 : nat_lt (date_field text 11 13) 24 ≡ true = lt-ltb _ _ (subst (λ x. x < 24) (sym hh.is) h.hours) in
    let h2 : nat_lt (date_field text 14 16) 60 ≡ true = lt-ltb _ _ (subst (λ x. x < 60) (sym mi.is) h.minutes) in
    let h3 : nat_lt (date_field text 17 19) 60 ≡ true = lt-ltb _ _ (subst (λ x. x < 60) (sym s.is) h.seconds) in
    let times : has_clock_form text ≡ true = and_from _ _ (and_from _ _ (and_from _ _ (and_from _ _ (ok_digits text 11 13 hour hh (omega arith)) e) (ok_digits text 14 16 minute mi (omega arith))) g) (ok_digits text 17 19 second s (omega arith)) in
    let clock : is_clock text ≡ true = and_from _ _ times (and_from _ _ (and_from _ _ h1 h2) h3) in
    let total : seconds_at text ≡ calendar_day_number year month day * 86400 + hour * 3600 + minute * 60 + second
    = seconds_are text year month day hour minute second y.is mo.is d.is hh.is mi.is s.is in
    cond-true _ _ _ (and_from _ _ (and_from _ _ (and_from _ _ date c) clock) f) ∙ ap (after_stamp (drop 19 text)) total
  where
    seconds_are : (text : List ℕ) (year month day hour minute second : ℕ) → date_field text 0 4 ≡ year → date_field text 5 7 ≡ month → date_field text 8 10 ≡ day → date_field text 11 13 ≡ hour → date_field text 14 16 ≡ minute → date_field text 17 19 ≡ second
        → seconds_at text ≡ calendar_day_number year month day * 86400 + hour * 3600 + minute * 60 + second
    seconds_are text year month day hour minute second a b c d e f =
        ap (λ x. calendar_day_number x (date_field text 5 7) (date_field text 8 10) * 86400 + date_field text 11 13 * 3600 + date_field text 14 16 * 60 + date_field text 17 19) a
        ∙ ap (λ x. calendar_day_number year x (date_field text 8 10) * 86400 + date_field text 11 13 * 3600 + date_field text 14 16 * 60 + date_field text 17 19) b
        ∙ ap (λ x. calendar_day_number year month x * 86400 + date_field text 11 13 * 3600 + date_field text 14 16 * 60 + date_field text 17 19) c
        ∙ ap (λ x. calendar_day_number year month day * 86400 + x * 3600 + date_field text 14 16 * 60 + date_field text 17 19) d
        ∙ ap (λ x. calendar_day_number year month day * 86400 + hour * 3600 + x * 60 + date_field text 17 19) e
        ∙ ap (λ x. calendar_day_number year month day * 86400 + hour * 3600 + minute * 60 + x) f

stamp : (year month day hour minute second : ℕ) → List ℕ → List ℕ
stamp year month day hour minute second rest =
    date_text year month day (84 ∷ (fixed_digits 10 2 hour ++ 58 ∷ (fixed_digits 10 2 minute ++ 58 ∷ (fixed_digits 10 2 second ++ rest))))

stamp_reads : (year month day hour minute second : ℕ) (rest : List ℕ) → InDay year month day hour minute second → is_second_fraction (second_fraction_length rest) ≡ true
    → instant_of (stamp year month day hour minute second rest) ≡ after_stamp rest (calendar_day_number year month day * 86400 + hour * 3600 + minute * 60 + second)
unfolding stamp fixed_digits
stamp_reads year month day hour minute second rest h f =
    let y = digits 4 year (omega (arith, h.year_low)) in let mo = digits 2 month (omega (arith, h.month_high)) in let d = digits 2 day (omega (arith, h.day_two)) in
    let hh = digits 2 hour (omega (arith, h.hours)) in let mi = digits 2 minute (omega (arith, h.minutes)) in let s = digits 2 second (omega (arith, h.seconds)) in
    parts_read (stamp year month day hour minute second rest) year month day hour minute second h (omega arith)
    (record { is = y.value; all = y.all }) (record { is = mo.value; all = mo.all }) (record { is = d.value; all = d.all }) (record { is = hh.value; all = hh.all }) (record { is = mi.value; all = mi.all }) (record { is = s.value; all = s.all })
    refl refl refl refl refl f

-- ---- the decimals

prefix_at : (p : ℕ → Bool) (xs : List ℕ) (y : ℕ) (ys : List ℕ) → list_all p xs ≡ true → p y ≡ false → prefix_len p (xs ++ y ∷ ys) ≡ length xs
prefix_at p [] y ys h g = rw g refl
prefix_at p (x ∷ xs) y ys h g = let a = and_parts _ _ h in let e : p x ≡ true = a.0 in rw e (ap (λ n. 1 + n) (prefix_at p xs y ys a.1 g) ∙ omega arith)

six_zeros : (v : ℕ) → digits_value_after 10 v (48 ∷ 48 ∷ 48 ∷ 48 ∷ 48 ∷ 48 ∷ []) ≡ v * 1000000
six_zeros v = omega arith

fraction_is : (ds : List ℕ) → list_all is_ascii_digit ds ≡ true → second_fraction_length (46 ∷ (ds ++ 90 ∷ [])) ≡ suc (length ds)
fraction_is ds h = ap (λ n. n + 1) (prefix_at is_ascii_digit ds 90 [] h refl) ∙ omega arith

after_fraction : (ds : List ℕ) (n seconds len : ℕ) → second_fraction_length (46 ∷ (ds ++ 90 ∷ [])) ≡ len → len ≡ suc (length ds) → fraction_nanos ds ≡ n → after_stamp (46 ∷ (ds ++ 90 ∷ [])) seconds ≡ instant_of_seconds seconds n (Some (pos 0))
unfolding after_stamp
after_fraction ds n seconds len e g v = grind (arith, drop_at, take_at)

three_nanos : (n : ℕ) → n < 1000 → fraction_nanos (fixed_digits 10 3 n) ≡ n * 1000000
unfolding fixed_digits
three_nanos n h = let d = digits 3 n (omega arith) in six_zeros (digits_value 10 (fixed_digits 10 3 n)) ∙ ap (λ v. v * 1000000) d.value

nine_nanos : (n : ℕ) → n < 1000000000 → fraction_nanos (fixed_digits 10 9 n) ≡ n
nine_nanos n h = let f = fixed 10 9 n (omega arith) (omega arith) (omega arith) in ap (digits_value 10) (take_at (fixed_digits 10 9 n) (replicate 9 48) 9 f.size) ∙ f.value

-- what follows the seconds says these nanoseconds in UTC
record Decimals (n : ℕ) (ds : List ℕ) : Type 0 where
  fraction : is_second_fraction (second_fraction_length (46 ∷ (ds ++ 90 ∷ []))) ≡ true
  says : (seconds : ℕ) → after_stamp (46 ∷ (ds ++ 90 ∷ [])) seconds ≡ instant_of_seconds seconds n (Some (pos 0))

decimals_read : (b : Bool) (n : ℕ) → (n % 1000000 == 0) ≡ b → n < 1000000000 → Decimals n (cond b (fixed_digits 10 3 (n / 1000000)) (fixed_digits 10 9 n))
decimals_read true n e h =
    let f = fixed 10 3 (n / 1000000) (omega arith) (omega arith) (omega arith) in let d = digits 3 (n / 1000000) (omega arith) in
    let len : second_fraction_length (46 ∷ (fixed_digits 10 3 (n / 1000000) ++ 90 ∷ [])) ≡ 4 = fraction_is _ d.all ∙ ap suc f.size in
    let whole : n % 1000000 ≡ 0 = eqb-true _ _ e in
    record { fraction = ap is_second_fraction len; says = λ s. after_fraction (fixed_digits 10 3 (n / 1000000)) n s 4 len (sym (ap suc f.size)) (three_nanos (n / 1000000) (omega arith) ∙ omega arith) }
decimals_read false n e h =
    let f = fixed 10 9 n (omega arith) (omega arith) (omega arith) in let d = digits 9 n (omega arith) in
    let len : second_fraction_length (46 ∷ (fixed_digits 10 9 n ++ 90 ∷ [])) ≡ 10 = fraction_is _ d.all ∙ ap suc f.size in
    record { fraction = ap is_second_fraction len; says = λ s. after_fraction (fixed_digits 10 9 n) n s 10 len (sym (ap suc f.size)) (nine_nanos n h) }

-- ---- the whole instant

abbrev seconds_from_0 : ℕ → ℕ
seconds_from_0 n = 59958230400 + n / 1000000000

text_reads : (n : ℕ) → n < 9467107200000000000 → instant_of (time_text_at n) ≡ instant_of_seconds (seconds_from_0 n) (n % 1000000000) (Some (pos 0))
unfolding stamp
text_reads n h =
    let days = n / 86400000000000 in
    let few : days < 109573 = omega arith in
    let found = year_after_days 300 1900 days in
    let y : InYear 1900 300 days found = in_year 300 1900 days (in_years days few) in
    let in_this : found.1 < days_before_month found.0 13 = subst (λ x. found.1 < x) (sym (year_months found.0)) y.day in
    let m : InMonth found.0 1 12 found.1 (month_after_days 12 found.0 1 found.1) = in_month 12 found.0 1 found.1 (omega arith) (zero_after found.1 (days_before_month found.0 13) in_this) in
    let month = month_after_days 12 found.0 1 found.1 in
    let day_small : calendar_days_in_month found.0 month.0 ≤ 31 = month_small found.0 month.0 in
    let q = n / 1000000000 % 86400 in
    let ok : InDay found.0 month.0 (month.1 + 1) (q / 3600) (q / 60 % 60) (q % 60) = record {
      year_low = omega (arith, y.high);
      month_low = m.low;
      month_high = omega (arith, m.high);
      day_low = omega arith;
      day_high = omega (arith, m.day);
      day_two = omega (arith, m.day, day_small);
      hours = omega arith;
      minutes = omega arith;
      seconds = omega arith;
    } in
    let d = decimals_read (n % 1000000000 % 1000000 == 0) (n % 1000000000) refl (omega arith) in
    let date : calendar_day_number found.0 month.0 (month.1 + 1) ≡ 693961 + days = date_is found.0 found.1 month.0 month.1 days y.same m.same in
    stamp_reads found.0 month.0 (month.1 + 1) (q / 3600) (q / 60 % 60) (q % 60) (46 ∷ (decimals (n % 1000000000) ++ 90 ∷ [])) ok d.fraction
    ∙ d.says _ ∙ ap (λ s. instant_of_seconds s (n % 1000000000) (Some (pos 0))) (ap (λ x. x * 86400 + q / 3600 * 3600 + q / 60 % 60 * 60 + q % 60) date ∙ sum_is n)
  where
    zero_after : (a b : ℕ) → a < b → 0 + a < b
    zero_after a b h = omega arith

    in_years : (days : ℕ) → days < 109573 → days_before_year 1900 + days < days_before_year (1900 + 300)
    in_years days h = omega arith

    month_small : (y m : ℕ) → calendar_days_in_month y m ≤ 31
    month_small y m = grind (arith, nat_tests)

    date_is : (y yd m md days : ℕ) → days_before_year y + yd ≡ days_before_year 1900 + days → days_before_month y m + md ≡ days_before_month y 1 + yd → calendar_day_number y m (md + 1) ≡ 693961 + days
    date_is y yd m md days a b = omega arith

    sum_is : (n : ℕ) → (693961 + n / 86400000000000) * 86400 + n / 1000000000 % 86400 / 3600 * 3600 + n / 1000000000 % 86400 / 60 % 60 * 60 + n / 1000000000 % 86400 % 60 ≡ 59958230400 + n / 1000000000
    sum_is n = omega arith

-- ---- instants

back : (t : ℤ) (n : ℕ) → instant_from_1900 t ≡ n → in_range t ≡ true → nanos_from_1970 (seconds_from_0 n) (n % 1000000000) (pos 0) ≡ t
back t n e h = grind arith

below_end : (t : ℤ) → in_range t ≡ true → instant_from_1900 t < 9467107200000000000
below_end t h = grind arith

in_range_step : (s n : ℕ) (t : ℤ) → nanos_from_1970 s n (pos 0) ≡ t → in_range t ≡ true → instant_of_seconds s n (Some (pos 0)) ≡ Some t
in_range_step s n t e h = ap (λ x. cond (in_range x) (Some x) None) e ∙ cond-true _ _ _ h

pub time_reads : (t : ℤ) → in_range t ≡ true → instant_of (time_text t) ≡ Some t
time_reads t h =
    let n = instant_from_1900 t in text_reads n (below_end t h) ∙ in_range_step (seconds_from_0 n) (n % 1000000000) t (back t n refl h) h
