use Rattle.std.proofs.Common.{◌≡◌, drop, option_copied}
use Rattle.std.specs.Prelude.{find}
use Rattle.break_finder.specs.Entrances.{is_break_entered}
use Rattle.break_finder.proofs.entrance.first_entered_break.Given as goal

abbrev pub invariant-loop-entrance : goal.invariant-loop-entrance
invariant-loop-entrance l =
    find (is_break_entered l.tolerance (option_copied l.last) l.instant) (drop l.entrance-index l.list) ≡ find (is_break_entered l.tolerance (option_copied l.last) l.instant) l.list
