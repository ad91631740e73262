use Rattle.std.proofs.Common.{sym, ◌∙◌}
use Rattle.std.specs.Cmp.Lexicographic.{same_text}
use Rattle.segment_state.proofs.Fronts.{stated_again}
use Rattle.segment_state.proofs.durations.SecondsReader.read.Goals as goal

pub returns-in-Some : goal.returns-in-Some
returns-in-Some c =
    let same = same_text c.in-Some.front.now c.self.inside.front.now (sym c.if-eq.true ∙ c.eq.ensures) in
    stated_again c.args.text.now c.self.inside.front.now c.in-Some.title.now c.self.inside.nanos _ c.self.invariant (sym same ∙ c.in-Some.ensures.front) c.in-Some.ensures.back
