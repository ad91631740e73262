use Rattle.std.proofs.Common.{◌≡◌, ◌++◌, map}
use Rattle.break_finder.specs.Kept.{break_at}
use Rattle.break_finder.specs.Entrances.{entrances_in}
use Rattle.break_finder.proofs.entering.list_break_entrances.Given as goal

abbrev pub invariant-loop-id : goal.invariant-loop-id
invariant-loop-id l =
    l.list.items ++ entrances_in l.target l.with_init_sections l.store (map break_at l.id-iterator) ≡ entrances_in l.target l.with_init_sections l.store (map break_at l.breaks.entries)
