use Rattle.std.proofs.Common.{◌≡◌, ◌∷◌, [], None, arith}
use Rattle.std.proofs.lemmas.Int.{to_z-of_z}
use Rattle.std.proofs.lemmas.Grind.{common_steps}
use Rattle.break_finder.proofs.SpanLaws.{three_tell}
use Rattle.break_finder.proofs.spans.spans_of_one_break.Goals as goal

pub returns-clause-tells : goal.returns-clause-tells
returns-clause-tells c =
    let before = c.closed_break_span-before.result in
    let within = c.open_break_span-within.result in
    let after = c.closed_break_span-after.result in
    let spans : c.push-3.new.self.items ≡ before ∷ within ∷ after ∷ [] = grind (arith, common_steps) in
    let low : before.to ≡ within.from = grind (arith, to_z-of_z) in
    let high : after.from ≡ within.to = grind (arith, to_z-of_z) in
    let before_none : before.first ≡ None = grind arith in
    let after_none : after.first ≡ None = grind arith in
    let is = c.open_break_span-within.ensures in
    three_tell _ _ _ _ _ _ spans low before_none high after_none is.first is.second is.window
