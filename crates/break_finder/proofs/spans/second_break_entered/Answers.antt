use Rattle.break_finder.proofs.spans.second_break_entered.Goals as goal

pub returns-clause-one : goal.returns-clause-one
returns-clause-one c = λ found ours first second. c.break_entered_but_last.ensures.one found first second
