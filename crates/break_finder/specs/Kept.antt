-- The known breaks as they are kept.
use Rattle.std.specs.Prelude.{ℕ, List}
use Rattle.break_finder.specs.declared.described.Described.{Described}
use Rattle.break_finder.specs.Breaks.{Break}

abbrev pub break_at : List ℕ × Described → Break
break_at kept = record { id = kept.0; said = kept.1 }
