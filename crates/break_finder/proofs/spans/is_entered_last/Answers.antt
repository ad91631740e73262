use Rattle.break_finder.proofs.Placed.{is_last_if_placed}
use Rattle.break_finder.proofs.spans.is_entered_last.Goals as goal

pub returns-in-Some-Some : goal.returns-in-Some-Some
returns-in-Some-Some c = λ found apart here last. is_last_if_placed found c.args.entered.place c.args.last.place _ _ _ _ apart c.in-Some-Some.is-0 c.in-Some-Some.is-1 here last
