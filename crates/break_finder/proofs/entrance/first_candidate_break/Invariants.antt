use Rattle.std.proofs.Common.{◌≡◌, map, option_copied}
use Rattle.break_finder.specs.Kept.{break_at}
use Rattle.break_finder.specs.Entrances.{entrances_in, first_entrance}
use Rattle.break_finder.proofs.entrance.first_candidate_break.Given as goal

abbrev pub invariant-loop-id : goal.invariant-loop-id
invariant-loop-id l =
    first_entrance l.tolerance (option_copied l.last) l.instant (entrances_in l.candidates.target l.candidates.with_init_sections l.candidates.store.now (map break_at l.id-iterator))
    ≡ first_entrance l.tolerance (option_copied l.last) l.instant (entrances_in l.candidates.target l.candidates.with_init_sections l.candidates.store.now (map break_at l.candidates.breaks.now.entries))
