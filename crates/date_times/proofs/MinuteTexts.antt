-- The text of an instant by that of its minute.
use Rattle.std.proofs.Common.{◌≡◌, ℕ, ◌+◌, ◌-◌, ◌*◌, ◌/◌, ◌%◌, ◌≤◌, List, [], ◌∷◌, ◌++◌, take, drop, length, refl, ap, sym, ◌∙◌, arith, append_assoc}
use Rattle.std.proofs.lemmas.List.{take-take, take-append-le, take_at, drop_at, drop-take, length-take}
use Rattle.spec_words.specs.Bytes.{hyphen, point, colon, capital_t, capital_z}
use Rattle.date_times.specs.Digits.{fixed_digits}
use Rattle.date_times.specs.Times.{year_after_days, month_after_days, date_text, minute_text, decimals, time_tag, time_text_at}

-- ---- the parts of a time

day_of : (n : ℕ) → n / 60000000000 / 1440 ≡ n / 86400000000000
day_of n = omega arith

hour_of : (n : ℕ) → n / 60000000000 % 1440 / 60 ≡ n / 1000000000 % 86400 / 3600
hour_of n = omega arith

minute_of : (n : ℕ) → n / 60000000000 % 60 ≡ n / 1000000000 % 86400 / 60 % 60
minute_of n = omega arith

second_of : (n : ℕ) → n % 60000000000 / 1000000000 ≡ n / 1000000000 % 86400 % 60
second_of n = omega arith

nanos_of : (n : ℕ) → n % 60000000000 % 1000000000 ≡ n % 1000000000
nanos_of n = omega arith

-- ---- their texts

-- the text of a day, an hour, a minute, a second and nanoseconds
abbrev time_of : ℕ → ℕ → ℕ → ℕ → ℕ → List ℕ
time_of days hour minute second nanos =
    let year = year_after_days 300 1900 days in let month = month_after_days 12 year.0 1 year.1 in
    date_text year.0 month.0 (month.1 + 1) (capital_t ∷ (fixed_digits 10 2 hour ++ colon ∷ (fixed_digits 10 2 minute ++ colon ∷ (fixed_digits 10 2 second ++ point ∷ (decimals nanos ++ capital_z ∷ [])))))

in_order : (a b c d e f : List ℕ) → ((((a ++ b) ++ c) ++ d) ++ e) ++ f ≡ a ++ (b ++ (c ++ (d ++ (e ++ f))))
in_order a b c d e f = grind (arith, append_assoc)

date_before : (year month day rest : List ℕ) → (year ++ hyphen ∷ (month ++ hyphen ∷ (day ++ []))) ++ rest ≡ year ++ hyphen ∷ (month ++ hyphen ∷ (day ++ rest))
date_before year month day rest = grind (arith, append_assoc)

clock_before : (hour minute rest : List ℕ) → (capital_t ∷ (hour ++ colon ∷ (minute ++ colon ∷ []))) ++ rest ≡ capital_t ∷ (hour ++ colon ∷ (minute ++ colon ∷ rest))
clock_before hour minute rest = grind (arith, append_assoc)

joined : (year month day hour minute second nanos : List ℕ)
    → (((((year ++ hyphen ∷ (month ++ hyphen ∷ (day ++ []))) ++ capital_t ∷ (hour ++ colon ∷ (minute ++ colon ∷ []))) ++ second) ++ point ∷ []) ++ nanos) ++ capital_z ∷ []
    ≡ year ++ hyphen ∷ (month ++ hyphen ∷ (day ++ capital_t ∷ (hour ++ colon ∷ (minute ++ colon ∷ (second ++ point ∷ (nanos ++ capital_z ∷ []))))))
joined year month day hour minute second nanos =
    let after = second ++ point ∷ (nanos ++ capital_z ∷ []) in
    in_order (year ++ hyphen ∷ (month ++ hyphen ∷ (day ++ []))) (capital_t ∷ (hour ++ colon ∷ (minute ++ colon ∷ []))) second (point ∷ []) nanos (capital_z ∷ [])
    ∙ (date_before year month day ((capital_t ∷ (hour ++ colon ∷ (minute ++ colon ∷ []))) ++ after)
    ∙ ap (λ x. year ++ hyphen ∷ (month ++ hyphen ∷ (day ++ x))) (clock_before hour minute after))

-- the text of a minute, and what stands after it
time_of_minute : (n : ℕ) → (((minute_text (n / 60000000000) ++ fixed_digits 10 2 (n % 60000000000 / 1000000000)) ++ point ∷ []) ++ decimals (n % 60000000000 % 1000000000)) ++ capital_z ∷ [] ≡ time_text_at n
time_of_minute n =
    let days = n / 60000000000 / 1440 in let hour = n / 60000000000 % 1440 / 60 in let minute = n / 60000000000 % 60 in
    let second = n % 60000000000 / 1000000000 in let nanos = n % 60000000000 % 1000000000 in
    let year = year_after_days 300 1900 days in let month = month_after_days 12 year.0 1 year.1 in
    joined (fixed_digits 10 4 year.0) (fixed_digits 10 2 month.0) (fixed_digits 10 2 (month.1 + 1)) (fixed_digits 10 2 hour) (fixed_digits 10 2 minute) (fixed_digits 10 2 second) (decimals nanos)
    ∙ (ap (λ d. time_of d hour minute second nanos) (day_of n)
    ∙ (ap (λ h. time_of (n / 86400000000000) h minute second nanos) (hour_of n)
    ∙ (ap (λ m. time_of (n / 86400000000000) (n / 1000000000 % 86400 / 3600) m second nanos) (minute_of n)
    ∙ (ap (λ s. time_of (n / 86400000000000) (n / 1000000000 % 86400 / 3600) (n / 1000000000 % 86400 / 60 % 60) s nanos) (second_of n)
    ∙ ap (λ f. time_of (n / 86400000000000) (n / 1000000000 % 86400 / 3600) (n / 1000000000 % 86400 / 60 % 60) (n / 1000000000 % 86400 % 60) f) (nanos_of n)))))

after_tag : (tag a b c d e : List ℕ) → ((((tag ++ a) ++ b) ++ c) ++ d) ++ e ≡ tag ++ ((((a ++ b) ++ c) ++ d) ++ e)
after_tag tag a b c d e = grind (arith, append_assoc)

-- the same after the tag
pub time_after_tag : (tag : List ℕ) (n : ℕ) → ((((tag ++ minute_text (n / 60000000000)) ++ fixed_digits 10 2 (n % 60000000000 / 1000000000)) ++ point ∷ []) ++ decimals (n % 60000000000 % 1000000000)) ++ capital_z ∷ [] ≡ tag ++ time_text_at n
time_after_tag tag n = after_tag tag _ _ _ _ _ ∙ ap (λ text. tag ++ text) (time_of_minute n)

-- a text that goes on from the first bytes of another begins as it
pub begins_as : (n m k : ℕ) (x y more : List ℕ) → take k y ≡ take m x ++ more → n ≤ m → m ≤ length x → m ≤ k → take n y ≡ take n x
begins_as n m k x y more e h l g =
    let enough : n ≤ length (take m x) = grind (arith, length-take) in
    sym (take-take n k y (omega arith)) ∙ (ap (take n) e ∙ (take-append-le n (take m x) more enough ∙ take-take n m x h))

tag_long : length time_tag ≡ 25
unfolding time_tag
tag_long = refl

-- what begins with a tag and more begins with the tag
pub tag_stands : (x more : List ℕ) → take 42 x ≡ time_tag ++ more → take 25 x ≡ time_tag
tag_stands x more e = sym (take-take 25 42 x (omega arith)) ∙ (ap (take 25) e ∙ take_at time_tag more 25 tag_long)

-- and what stands after the tag is the rest
pub after_the_tag : (x more : List ℕ) (end : ℕ) → take end x ≡ time_tag ++ more → 25 ≤ end → take (end - 25) (drop 25 x) ≡ more
after_the_tag x more end e h =
    let whole : 25 + (end - 25) ≡ end = omega arith in
    sym (drop-take 25 (end - 25) x) ∙ (ap (λ n. drop 25 (take n x)) whole ∙ (ap (drop 25) e ∙ drop_at time_tag more 25 tag_long))

-- the line of a text
pub line_after_tag : (tag text feed x y : List ℕ) (end : ℕ) → take end x ≡ tag ++ text → take (end + 1) y ≡ take end x ++ feed → take (end + 1) y ≡ tag ++ (text ++ feed)
line_after_tag tag text feed x y end e f = f ∙ (ap (λ front. front ++ feed) e ∙ append_assoc tag text feed)
