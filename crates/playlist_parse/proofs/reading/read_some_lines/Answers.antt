use Rattle.std.proofs.Common.{◌≡◌, ◌∷◌, ◌++◌, ap, map, length, subst, arith}
use Rattle.std.proofs.lemmas.Grind.{common_steps}
use Rattle.playlist_parse.specs.Inner.LineViews.{line_text}
use Rattle.playlist_parse.specs.Inner.Reached.{Reached, Telling}
use Rattle.playlist_parse.proofs.reading.read_some_lines.Goals as goal

pub lines-preserved : goal.lines-preserved
lines-preserved c =
    let r = c.lines.reading in
    let cut : map line_text r.lines ≡ c.in-Some.line.text.now ∷ map line_text c.next.new.self = ap (map line_text) c.in-Some.ensures.line in
    let size = ap length c.in-Some.ensures.line in (
      λ base tail all here. c.in-Ok.ensures.reached base tail all (subst (λ left. Reached base r.progress r.number (left ++ tail) all) cut (c.lines.invariant.0 base tail all here)),
      c.in-Ok.ensures.plain,
      omega (arith, size, c.in-Ok.ensures.counted, c.lines.invariant.2),
      λ base tail fault told. c.in-Ok.ensures.light base tail fault (subst (λ left. Telling base r.progress r.number (left ++ tail) fault) cut (c.lines.invariant.3 base tail fault told)),
    )

pub read_next_line-requires : goal.read_next_line-requires
read_next_line-requires c = grind (arith, common_steps)

pub returns-in-Err-clause-reached : goal.returns-in-Err-clause-reached
returns-in-Err-clause-reached c = λ base tail all here.
    let r = c.lines.reading in
    let cut : map line_text r.lines ≡ c.in-Some.line.text.now ∷ map line_text c.next.new.self = ap (map line_text) c.in-Some.ensures.line in
    c.in-Err.ensures.reached base tail all (subst (λ left. Reached base r.progress r.number (left ++ tail) all) cut (c.lines.invariant.0 base tail all here))

pub returns-in-Err-clause-light : goal.returns-in-Err-clause-light
returns-in-Err-clause-light c = λ base tail fault told.
    let r = c.lines.reading in
    let cut : map line_text r.lines ≡ c.in-Some.line.text.now ∷ map line_text c.next.new.self = ap (map line_text) c.in-Some.ensures.line in
    c.in-Err.ensures.light base tail fault (subst (λ left. Telling base r.progress r.number (left ++ tail) fault) cut (c.lines.invariant.3 base tail fault told))
