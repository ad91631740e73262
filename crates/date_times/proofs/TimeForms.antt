-- The parts of a date and time.
use Rattle.std.proofs.Common.{◌≡◌, ℕ, ◌+◌, ◌≤◌, Bool, true, false, List, [], ◌∷◌, take, drop, length, refl, ap, sym, ◌∙◌, arith, ℤ, pos, ◌+ℤ◌, ◌-ℤ◌, ◌*ℤ◌, ◌*◌, suc, length-drop, Some, None, cond}
use Rattle.std.specs.Prelude.{◌&&◌, ◌==◌, slice_index, slice_range, Option, if◌then◌else◌}
use Rattle.std.specs.List.{list_all, prefix_len}
use Rattle.std.specs.Char.{is_ascii_digit}
use Rattle.std.proofs.lemmas.Bool.{and_from}
use Rattle.std.proofs.lemmas.List.{take_all}
use Rattle.jiff_core.proofs.SignedLemmas.{signed_arith}
use Rattle.date_times.specs.Instant.{are_date_digits, has_date_form, is_date, is_clock, second_fraction_length, is_second_fraction, fraction_nanos, zone_offset_of, instant_of_seconds, instant_of, seconds_at, if_in_range, nanos_from_1970, calendar_day_number, date_field}
use Rattle.date_times.specs.Inner.Instant.{with_fraction, second_end_of}

-- the three numbers of `a-b-c` are digits
pub form_parts : (a b c d e : Bool) → (a && b && c && d && e) ≡ true → (a ≡ true) × (c ≡ true) × (e ≡ true)
form_parts a b c d e h = grind arith

pub date_parts : (text : List ℕ) → has_date_form text ≡ true → (are_date_digits text 0 4 ≡ true) × (are_date_digits text 5 7 ≡ true) × (are_date_digits text 8 10 ≡ true)
date_parts text h = form_parts (are_date_digits text 0 4) (slice_index text 4 == 45) (are_date_digits text 5 7) (slice_index text 7 == 45) (are_date_digits text 8 10) h

-- ---- the fraction

front_step : (b : Bool) (p : ℕ → Bool) (x : ℕ) (xs : List ℕ) (n : ℕ) → p x ≡ b → list_all p (take n xs) ≡ true → list_all p (take (cond b (1 + n) 0) (x ∷ xs)) ≡ true
front_step true p x xs n e h = let more : 1 + n ≡ suc n = omega arith in rw more (and_from _ _ e h)
front_step false p x xs n e h = refl

front_passes : (p : ℕ → Bool) (xs : List ℕ) → list_all p (take (prefix_len p xs) xs) ≡ true
front_passes p [] = refl
front_passes p (x ∷ xs) = front_step (p x) p x xs (prefix_len p xs) refl (front_passes p xs)

after_point : (b : Bool) (x : ℕ) (xs : List ℕ) → list_all is_ascii_digit (drop 1 (take (cond b (prefix_len is_ascii_digit xs + 1) 0) (x ∷ xs))) ≡ true
after_point true x xs = grind (arith, front_passes)
after_point false x xs = refl

-- after the point of a fraction there are digits
pub fraction_digits : (rest : List ℕ) → list_all is_ascii_digit (drop 1 (take (second_fraction_length rest) rest)) ≡ true
fraction_digits [] = refl
fraction_digits (x ∷ xs) = after_point (x == 46) x xs

-- ---- the whole text

-- a time of day is 19 bytes long
pub clock_length : (text : List ℕ) → is_clock text ≡ true → 19 ≤ length text
clock_length text h = grind arith

nanos_same : (number clock nanos : ℕ) (day offset seconds : ℤ) → day +ℤ pos 719528 ≡ pos number → seconds ≡ (day *ℤ pos 86400 +ℤ pos clock) -ℤ offset
    → seconds *ℤ pos 1000000000 +ℤ pos nanos ≡ nanos_from_1970 (number * 86400 + clock) nanos offset
nanos_same number clock nanos day offset seconds h e = omega (arith, signed_arith, h, e)

seconds_same : (n a b c k : ℕ) → k ≡ a * 3600 + b * 60 + c → n * 86400 + k ≡ n * 86400 + a * 3600 + b * 60 + c
seconds_same n a b c k e = omega (arith, e)

no_end_if : (b w : Bool) (seconds nanos : ℕ) (zone : Option ℤ) → None ≡ (if w then with_fraction nanos zone else None) → cond (b && w) (instant_of_seconds seconds nanos zone) None ≡ None
no_end_if true true seconds nanos None h = refl
no_end_if true true seconds nanos (Some offset) h = absurd (cc h)
no_end_if true false seconds nanos zone h = refl
no_end_if false w seconds nanos zone h = refl

same_end : (x y : ℕ × ℤ) → ◌≡◌ {A = Option (ℕ × ℤ)} (Some x) (Some y) → x ≡ y
same_end x y h = cc h

end_if : (b w : Bool) (seconds nanos : ℕ) (zone : Option ℤ) (end : ℕ × ℤ) → b ≡ true → Some end ≡ (if w then with_fraction nanos zone else None)
    → cond (b && w) (instant_of_seconds seconds nanos zone) None ≡ if_in_range (nanos_from_1970 seconds end.0 end.1)
end_if true true seconds nanos None end e h = absurd (cc h)
end_if true true seconds nanos (Some offset) end e h = ap (λ x. if_in_range (nanos_from_1970 seconds x.0 x.1)) (sym (same_end end (nanos, offset) h))
end_if true false seconds nanos zone end e h = absurd (cc h)
end_if false w seconds nanos zone end e h = absurd (cc e)

-- what stands after the time of day may state no instant
pub no_end : (text : List ℕ) → None ≡ second_end_of (drop 19 text) → instant_of text ≡ None
no_end text h =
    let rest = drop 19 text in
    let len = second_fraction_length rest in
    no_end_if (is_date text && slice_index text 10 == 84 && is_clock text) (is_second_fraction len) (seconds_at text) (fraction_nanos (drop 1 (take len rest))) (zone_offset_of (drop len rest)) h

-- or one with its nanoseconds and its offset
pub end_found : (text : List ℕ) (clock : ℕ) (end : ℕ × ℤ) (day seconds : ℤ) → is_date text ≡ true → (slice_index text 10 == 84) ≡ true → is_clock text ≡ true
    → day +ℤ pos 719528 ≡ pos (calendar_day_number (date_field text 0 4) (date_field text 5 7) (date_field text 8 10)) → clock ≡ date_field text 11 13 * 3600 + date_field text 14 16 * 60 + date_field text 17 19
    → Some end ≡ second_end_of (drop 19 text) → seconds ≡ (day *ℤ pos 86400 +ℤ pos clock) -ℤ end.1 → if_in_range (seconds *ℤ pos 1000000000 +ℤ pos end.0) ≡ instant_of text
end_found text clock end day seconds d t c known k is e =
    let number = calendar_day_number (date_field text 0 4) (date_field text 5 7) (date_field text 8 10) in
    let rest = drop 19 text in
    let len = second_fraction_length rest in
    ap if_in_range (nanos_same number clock end.0 day end.1 seconds known e ∙ ap (λ s. nanos_from_1970 s end.0 end.1) (seconds_same number (date_field text 11 13) (date_field text 14 16) (date_field text 17 19) clock k))
    ∙ sym (end_if (is_date text && slice_index text 10 == 84 && is_clock text) (is_second_fraction len) (seconds_at text) (fraction_nanos (drop 1 (take len rest))) (zone_offset_of (drop len rest)) end (and_from _ _ (and_from _ _ d t) c) is)

pub rest_is : (text : List ℕ) → slice_range text 19 (length text) ≡ drop 19 text
rest_is text = take_all _ (drop 19 text) (omega (arith, length-drop 19 text))
