-- What a text says as a duration in nanoseconds, and how a duration is written (RFC 8216, 4.3.2.1).
use Rattle.std.specs.Prelude.{ℕ, ◌+◌, ◌*◌, ◌/◌, ◌%◌, ◌^◌, not, ◌==◌, nat_le, List, [], ◌∷◌, ◌++◌, decimal, codes, Result, Ok, Err, if◌then◌else◌}
use Rattle.spec_words.specs.Bytes.{point}
use Rattle.fixed_duration.specs.declared.DurationFault.{DurationFault}
use Rattle.fixed_duration.specs.declared.DurationFault.TheVariants.{Empty, NotDigits, TooLarge}
use Rattle.fixed_duration.specs.Text.{is_empty, is_decimal, whole_part, fraction_part, value_of_digits, nine_digits, fraction_digits}

-- the whole seconds that a text says
abbrev pub whole_seconds_of_duration : List ℕ → ℕ
whole_seconds_of_duration text = value_of_digits (whole_part text)

-- the nanoseconds that its fraction says: digits after the ninth are dropped
abbrev pub fraction_of : List ℕ → ℕ
fraction_of text = value_of_digits (nine_digits (fraction_part text))

-- the nanoseconds that a text of less than 1,000,000 seconds says, or why it says none
abbrev pub duration_of : List ℕ → Result ℕ DurationFault
duration_of text =
    if is_empty text then Err Empty
    else (if not (is_decimal text) then Err NotDigits
    else (if nat_le (10 ^ 6) (whole_seconds_of_duration text) then Err TooLarge
    else Ok (whole_seconds_of_duration text * 10 ^ 9 + fraction_of text)))

-- a point and the digits after it, up to the last that is not 0; nothing if all nine are 0
abbrev pub fraction_text : ℕ → List ℕ
fraction_text nanos = if nanos == 0 then [] else point ∷ fraction_digits 9 nanos

-- how a number of nanoseconds is written in seconds
abbrev pub duration_text : ℕ → List ℕ
duration_text nanos = decimal (nanos / 10 ^ 9) ++ fraction_text (nanos % 10 ^ 9)

-- the nearest whole number of seconds, where a half goes up: so EXT-X-TARGETDURATION compares (RFC 8216, 4.3.3.1)
abbrev pub rounded_seconds_of : ℕ → ℕ
rounded_seconds_of nanos = (nanos + 5 * 10 ^ 8) / 10 ^ 9

-- how a fault is printed: its code and its name
abbrev pub fault_text : DurationFault → List ℕ
fault_text Empty = codes "U1 Empty"
fault_text NotDigits = codes "U2 NotDigits"
fault_text TooLarge = codes "U3 TooLarge"
