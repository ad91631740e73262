use Rattle.std.proofs.Common.{◌∙◌, sym, ap, option_copied}
use Rattle.break_finder.specs.Entering.{EntryLimits, entered}
use Rattle.break_finder.specs.Entrances.{first_entrance}
use Rattle.break_finder.proofs.FirstEntered.{first_entered}
use Rattle.break_finder.proofs.entering.Entrances.find_entered.Goals as goal

pub returns-in-Some-clause-entered : goal.returns-in-Some-clause-entered
returns-in-Some-clause-entered c = λ target with_init_sections store breaks these.
    let last = option_copied c.args.last.id in
    let tolerance = c.args.self.now.tolerance in
    let m : EntryLimits = record { tolerance = tolerance; target_duration = target; with_init_sections = with_init_sections; last = last } in
    c.first.ensures.taken ∙ ap (first_entrance tolerance last c.in-Some.instant) these ∙ first_entered m store breaks c.in-Some.instant ∙ ap (entered m store breaks) (sym c.in-Some.is)
