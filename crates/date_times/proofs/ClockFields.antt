-- The numbers of two digits that a time of day has.
use Rattle.std.proofs.Common.{◌≡◌, ℕ, ◌+◌, ◌*◌, ◌-◌, ◌≤◌, ◌<◌, List, [], ◌∷◌, take, drop, length, Bool, true, false, refl, ap, ◌∙◌, arith, get_or}
use Rattle.std.specs.Prelude.{◌&&◌, ◌==◌, nat_le}
use Rattle.std.specs.Char.{is_ascii_digit}
use Rattle.std.specs.List.{list_all}
use Rattle.std.specs.Str.Parse.{digits_value}
use Rattle.std.proofs.lemmas.Bool.{le-leb, leb-true, and_parts}
use Rattle.std.proofs.lemmas.Bool.Decides.{nat_tests}
use Rattle.std.proofs.lemmas.List.{drop_more}
use Rattle.date_times.specs.Instant.{date_field, are_date_digits, has_clock_form, is_time_of_day, is_clock}

-- the two elements from a place on
two_from : (text : List ℕ) (i : ℕ) → i + 2 ≤ length text → take 2 (drop i text) ≡ get_or text i 0 ∷ (get_or text (i + 1) 0 ∷ [])
two_from text i h = rw (drop_more text i 0 (omega (arith, h)), drop_more text (i + 1) 0 (omega (arith, h))) refl

two_more : (i : ℕ) → i + 2 - i ≡ 2
two_more i = omega arith

both : (n a b : Bool) → n ≡ true → (n && (a && (b && true))) ≡ (a && b)
both n true true h = rw h refl
both n true false h = rw h refl
both n false b h = rw h refl

-- digits stand there just if both are digits
pub pair_digits : (text : List ℕ) (i : ℕ) → i + 2 ≤ length text → are_date_digits text i (i + 2) ≡ (is_ascii_digit (get_or text i 0) && is_ascii_digit (get_or text (i + 1) 0))
pair_digits text i h =
    ap (λ k. nat_le (i + 2) (length text) && list_all is_ascii_digit (take k (drop i text))) (two_more i)
    ∙ ap (λ pair. nat_le (i + 2) (length text) && list_all is_ascii_digit pair) (two_from text i h)
    ∙ both (nat_le (i + 2) (length text)) (is_ascii_digit (get_or text i 0)) (is_ascii_digit (get_or text (i + 1) 0)) (le-leb (i + 2) (length text) h)

two_value : (a b : ℕ) → is_ascii_digit a ≡ true → is_ascii_digit b ≡ true → digits_value 10 (a ∷ (b ∷ [])) ≡ (a - 48) * 10 + (b - 48)
two_value a b x y = grind (arith, nat_tests)

-- the number that they write
pub pair_value : (text : List ℕ) (i : ℕ) → i + 2 ≤ length text → is_ascii_digit (get_or text i 0) ≡ true → is_ascii_digit (get_or text (i + 1) 0) ≡ true → date_field text i (i + 2) ≡ (get_or text i 0 - 48) * 10 + (get_or text (i + 1) 0 - 48)
pair_value text i h a b =
    ap (λ k. digits_value 10 (take k (drop i text))) (two_more i)
    ∙ ap (digits_value 10) (two_from text i h)
    ∙ two_value (get_or text i 0) (get_or text (i + 1) 0) a b

not_so : (b : Bool) → (b ≡ true → ⊥) → b ≡ false
not_so true f = absurd (f refl)
not_so false f = refl

pub no_clock : (text : List ℕ) → (is_clock text ≡ true → ⊥) → is_clock text ≡ false
no_clock text f = not_so (is_clock text) f

-- what a time of day has
pub record Clock (text : List ℕ) : Type 0 where
  pub long : 19 ≤ length text
  pub marks : (get_or text 13 0 ≡ 58) × (get_or text 16 0 ≡ 58)
  pub hour : (are_date_digits text 11 13 ≡ true) × (date_field text 11 13 < 24)
  pub minute : (are_date_digits text 14 16 ≡ true) × (date_field text 14 16 < 60)
  pub second : (are_date_digits text 17 19 ≡ true) × (date_field text 17 19 < 60)

five : (a b c d e : Bool) → (a && b && c && d && e) ≡ true → (a ≡ true) × (b ≡ true) × (c ≡ true) × (d ≡ true) × (e ≡ true)
five a b c d e h = grind arith

three : (a b c : ℕ) → is_time_of_day a b c ≡ true → (a < 24) × (b < 60) × (c < 60)
three a b c h = grind (arith, nat_tests)

is_mark : (b : ℕ) → (b == 58) ≡ true → b ≡ 58
is_mark b h = grind (arith, nat_tests)

pub clock_needs : (text : List ℕ) → is_clock text ≡ true → Clock text
clock_needs text h =
    let parts = and_parts (has_clock_form text) (is_time_of_day (date_field text 11 13) (date_field text 14 16) (date_field text 17 19)) h in
    let form = five (are_date_digits text 11 13) (get_or text 13 0 == 58) (are_date_digits text 14 16) (get_or text 16 0 == 58) (are_date_digits text 17 19) parts.0 in
    let day = three (date_field text 11 13) (date_field text 14 16) (date_field text 17 19) parts.1 in
    record {
      long = leb-true 19 (length text) (and_parts (nat_le 19 (length text)) _ form.4).0;
      marks = (is_mark (get_or text 13 0) form.1, is_mark (get_or text 16 0) form.3);
      hour = (form.0, day.0);
      minute = (form.2, day.1);
      second = (form.4, day.2);
    }
