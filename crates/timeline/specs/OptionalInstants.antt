-- An optional instant as one number.
use Rattle.std.specs.Prelude.{ℤ, pos, ◌-ℤ◌, Option, None, Some, if◌then◌else◌}
use Rattle.std.specs.Ordering.{int_eq}

-- the number that stands for none: the least of 64 bits, which lies before every instant in range
abbrev pub no_instant : ℤ
no_instant = pos 0 -ℤ pos 9223372036854775808

-- what a number says
abbrev pub instant_held : ℤ → Option ℤ
instant_held number = if int_eq number no_instant then None else Some number

-- the number that says this
abbrev pub number_for : Option ℤ → ℤ
number_for None = no_instant
number_for (Some instant) = instant
