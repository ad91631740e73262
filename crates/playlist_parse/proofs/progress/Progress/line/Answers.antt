use Rattle.std.proofs.Common.{◌≡◌, ◌++◌, ap, sym, ◌∙◌, arith}
use Rattle.std.specs.Prelude.{codes}
use Rattle.std.proofs.lemmas.Grind.{common_steps}
use Rattle.playlist_parse.proofs.LineLemmas.{duration_line, duration_tag}
use Rattle.playlist_parse.proofs.progress.Progress.line.Goals as goal

pub returns-in-Some-clause-takes : goal.returns-in-Some-clause-takes
returns-in-Some-clause-takes c = λ before e.
    let base = c.args.self.now.base in
    let line : c.args.line.now ≡ codes "#EXTINF:" ++ c.in-Some.stated.now =
    c.in-Some.ensures.cases.1.1 ∙ ap (λ rest. codes "#EXTINF:" ++ rest) (sym c.in-Some.ensures.cases.2) in
    let said = duration_line base before c.args.line.now c.in-Some.stated.now line (sym c.if-line_has_control.ensures) in
    grind (arith, common_steps)

pub returns-in-Some-clause-light : goal.returns-in-Some-clause-light
returns-in-Some-clause-light c = grind (arith, common_steps, duration_tag)
