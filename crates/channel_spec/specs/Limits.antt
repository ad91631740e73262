-- How far from the start of a break an instant may lie and still enter it, and how far before its end it must lie, in
-- nanoseconds.
use Rattle.std.specs.Prelude.{ℕ}

-- 100 ms, if nothing else is asked
abbrev pub default_tolerance : ℕ
default_tolerance = 100000000

-- 10 s at the most
abbrev pub max_tolerance : ℕ
max_tolerance = 10000000000
