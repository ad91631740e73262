-- The text of a duration: a decimal number of seconds, with at most one point (RFC 8216, 4.2 and 4.3.2.1).
use Rattle.std.specs.Prelude.{ℕ, ◌+◌, ◌/◌, ◌%◌, Bool, not, ◌&&◌, ◌==◌, List, [], ◌∷◌, ◌++◌, take, length, replicate, zero, suc, if◌then◌else◌}
use Rattle.std.specs.List.{before_first, after_first, list_all}
use Rattle.std.specs.Char.{is_ascii_digit}
use Rattle.std.specs.Str.Parse.{digits_value}
use Rattle.spec_words.specs.Bytes.{point, digit_zero}

abbrev pub is_point : ℕ → Bool
is_point c = c == point

abbrev pub is_empty : List ℕ → Bool
is_empty text = length text == 0

-- what stands before the first point, or the whole text without one
abbrev pub whole_part : List ℕ → List ℕ
whole_part text = before_first is_point text

-- what stands after the first point, or nothing without one
abbrev pub fraction_part : List ℕ → List ℕ
fraction_part text = after_first is_point text

abbrev pub are_digits : List ℕ → Bool
are_digits text = list_all is_ascii_digit text

-- only digits on both sides of the point, and at least one in all: `5.` and `.5` are numbers, and `.` is none
abbrev pub is_decimal : List ℕ → Bool
is_decimal text = are_digits (whole_part text) && are_digits (fraction_part text)
    && not (is_empty (whole_part text) && is_empty (fraction_part text))

-- the number that digits write
abbrev pub value_of_digits : List ℕ → ℕ
value_of_digits digits = digits_value 10 digits

-- the first nine digits, filled up with zeros: a fraction of a second in nanoseconds
abbrev pub nine_digits : List ℕ → List ℕ
nine_digits digits = take 9 (digits ++ replicate 9 digit_zero)

-- the last so many decimal digits of a number, zeros in front among them
unfoldable pub last_digits : ℕ → ℕ → List ℕ
last_digits zero n = []
last_digits (suc k) n = last_digits k (n / 10) ++ (digit_zero + n % 10) ∷ []

-- without the zeros at the end
abbrev pub without_last_zeros : List ℕ → List ℕ
without_last_zeros [] = []
without_last_zeros (d ∷ digits) = if d == digit_zero && is_empty (without_last_zeros digits) then [] else d ∷ without_last_zeros digits

-- the digits of a fraction of 10 ^ places, up to the last that is not 0
abbrev pub fraction_digits : ℕ → ℕ → List ℕ
fraction_digits places n = without_last_zeros (last_digits places n)
