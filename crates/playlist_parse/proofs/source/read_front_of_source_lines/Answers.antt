use Rattle.std.proofs.Common.{◌≡◌, ◌++◌, [], ap, map, subst, ◌∙◌}
use Rattle.std.specs.Str.Lines.{lines}
use Rattle.std.proofs.lemmas.List.{append-nil}
use Rattle.playlist_parse.specs.Inner.LineViews.{line_text}
use Rattle.playlist_parse.specs.Inner.Reached.{Reached, left_in}
use Rattle.playlist_parse.proofs.Reached.{begun_at}
use Rattle.playlist_parse.proofs.source.read_front_of_source_lines.Goals as goal

pub returns-in-Ok : goal.returns-in-Ok
returns-in-Ok c =
    let old = c.reading_of_lines-front.result in
    let new = c.read_some_lines.new.reading in
    let base = c.args.base.now in
    let text : c.as_str.result.now ≡ c.args.source.now.lines.text = c.as_str.ensures.text in
    let lines_are : left_in old ++ [] ≡ lines c.args.source.now.lines.text = append-nil (left_in old) ∙ ap (map line_text) c.reading_of_lines-front.ensures.lines ∙ c.new-lines.ensures.texts ∙ ap lines text in
    subst (λ left. Reached base new.progress new.number left (lines c.args.source.now.lines.text)) (append-nil (left_in new))
    (subst (λ ls. Reached base new.progress new.number (left_in new ++ []) ls) lines_are
    (c.in-Ok.ensures.reached base [] (left_in old ++ []) (begun_at base old [] c.reading_of_lines-front.ensures.number c.reading_of_lines-front.ensures.begun)))
