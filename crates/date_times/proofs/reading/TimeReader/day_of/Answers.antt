use Rattle.std.proofs.Common.{sym, subst, ◌∙◌, take, arith}
use Rattle.std.specs.Cmp.Lexicographic.{same_text}
use Rattle.std.proofs.lemmas.Grind.{common_steps}
use Rattle.date_times.specs.Instant.{IsDayOf}
use Rattle.date_times.proofs.KeptDates.{of_first_ten, no_date, day_fits}
use Rattle.date_times.proofs.reading.TimeReader.day_of.Goals as goal

pub returns-in_err-date : goal.returns-in_err-date
returns-in_err-date c = grind (arith, common_steps, no_date)

pub returns-then-eq : goal.returns-then-eq
returns-then-eq c =
    let text = c.args.text.now in
    let day = c.self.inside.day in
    let first = c.in_ok-date.ensures.cases in
    let same = same_text c.in_ok-date.date.now c.self.inside.date (sym c.if-eq.true ∙ c.eq.ensures) in
    let kept : IsDayOf (take 10 text) day = subst (λ date. IsDayOf date day) (sym same ∙ first.same) c.self.invariant in
    let known = (of_first_ten text first.enough).1 day kept in
    subst (IsDayOf text) (sym (day_fits text day known)) known

pub returns : goal.returns
returns c = grind (arith, common_steps, day_fits, of_first_ten)
