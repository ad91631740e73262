-- The entrances of known breaks, listed or not.
use Rattle.std.specs.Prelude.{List, map, Option, Some, None}
use Rattle.break_finder.specs.Kept.{break_at}
use Rattle.break_finder.specs.Entrances.{Entrance, entrances_in}
use Rattle.break_finder.specs.declared.entrance.Candidates.{Candidates}

-- those that are listed, or those of the candidates
abbrev pub found_in : Option Candidates → List Entrance → List Entrance
found_in None list = list
found_in (Some c) list = entrances_in c.target c.with_init_sections c.store.now (map break_at c.breaks.now.entries)
