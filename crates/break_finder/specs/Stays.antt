-- Until when segments stay in a break that one of them has entered.
use Rattle.std.specs.Prelude.{ℤ, Bool, false, Option, Some, None, option_map}
use Rattle.break_finder.specs.Breaks.{is_before_break_end}
use Rattle.break_finder.specs.Ends.{end_view}
use Rattle.break_finder.specs.declared.knowledge.Stay.{Stay}

-- a segment that begins at this instant stays in it
abbrev pub stays_at : Stay → Option ℤ → Bool
stays_at stay None = false
stays_at stay (Some instant) = is_before_break_end instant stay.tolerance (option_map end_view stay.end)
