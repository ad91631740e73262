use Rattle.std.proofs.Common.{Err, ◌≡◌, ◌++◌, [], ap, map, subst, sym, ◌∙◌, arith}
use Rattle.std.specs.Str.Lines.{lines}
use Rattle.std.proofs.lemmas.List.{append-nil, length-map}
use Rattle.std.proofs.lemmas.Grind.{common_steps}
use Rattle.playlist_parse.specs.Inner.LineViews.{line_text}
use Rattle.playlist_parse.specs.Inner.Reached.{Reached, Telling}
use Rattle.playlist_kept.specs.Kept.{playlist_in}
use Rattle.playlist_parse.proofs.Light.{is_over, told_after}
use Rattle.playlist_parse.proofs.Reached.{none_more, told_whole}
use Rattle.playlist_parse.proofs.GoingTo.{grown, if_ok}
use Rattle.playlist_parse.proofs.reader.read_tail_lines.Goals as goal

pub read_all_lines-requires : goal.read_all_lines-requires
read_all_lines-requires c = grind (arith, common_steps, length-map)

pub returns-in-Ok : goal.returns-in-Ok
returns-in-Ok c =
    let left : lines c.args.tail.now ≡ map line_text c.new-reading.result ++ [] = sym (append-nil (map line_text c.new-reading.result) ∙ c.new-reading.ensures.texts) in
    let new = c.read_all_lines.new.reading in
    record {
      answer = grind (arith, append-nil, none_more);
      light = λ base e told.
          let begun = subst (λ ls. Telling base c.args.reading.progress c.args.reading.number ls e) left told in
          absurd (is_over (told_after [] c.read_all_lines.new.reading c.in-Ok.ensures.none_left (c.in-Ok.ensures.light base [] e begun)));
      grown = λ base all here.
          let begun = subst (λ ls. Reached base c.args.reading.progress c.args.reading.number ls all) left here in
          let end = none_more new [] all c.in-Ok.ensures.none_left (c.in-Ok.ensures.reached base [] all begun) in
          if_ok c.whole_playlist_reading.result _ _ (λ read ends. grown (playlist_in read) here end (told_whole read end ends)) c.whole_playlist_reading.ensures.whole;
      front = c.whole_playlist_reading.ensures.front;
    }

pub returns-clause-answer : goal.returns-clause-answer
returns-clause-answer c = λ base all here.
    let left : lines c.args.tail.now ≡ map line_text c.new-reading.result ++ [] = sym (append-nil (map line_text c.new-reading.result) ∙ c.new-reading.ensures.texts) in
    c.in-Err.ensures.reached base [] all (subst (λ ls. Reached base c.args.reading.progress c.args.reading.number ls all) left here)

pub returns-clause-light : goal.returns-clause-light
returns-clause-light c = λ base e told.
    let left : lines c.args.tail.now ≡ map line_text c.new-reading.result ++ [] = sym (append-nil (map line_text c.new-reading.result) ∙ c.new-reading.ensures.texts) in
    ap Err (c.in-Err.ensures.light base [] e (subst (λ ls. Telling base c.args.reading.progress c.args.reading.number ls e) left told))
