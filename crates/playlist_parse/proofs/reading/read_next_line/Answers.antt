use Rattle.playlist_parse.proofs.Light.{still_told, is_told}
use Rattle.playlist_parse.proofs.Reached.{next, taken_ok, line_refused}
use Rattle.std.proofs.Common.{◌++◌, ◌∙◌, map, arith}
use Rattle.std.proofs.lemmas.Grind.{common_steps}
use Rattle.playlist_parse.specs.Inner.LineViews.{line_text}
use Rattle.playlist_parse.proofs.reading.read_next_line.Goals as goal

pub returns-clause-reached : goal.returns-clause-reached
returns-clause-reached c = λ base tail all here. c.pass_line_again.ensures.reached base tail all (next here (taken_ok c.args.line.now c.line.new.self here c.in-Ok.ensures.takes))

pub returns-clause-light : goal.returns-clause-light
returns-clause-light c = λ base tail fault told.
    c.pass_line_again.ensures.light base tail fault (still_told base c.args.progress.now c.line.new.self c.args.number.now c.args.line.now (map line_text c.args.lines.now ++ tail) fault _ c.in-Ok.ensures.light told)

pub returns-in-Err-clause-reached : goal.returns-in-Err-clause-reached
returns-in-Err-clause-reached c = grind (arith, common_steps, line_refused)

pub returns-in-Err-clause-light : goal.returns-in-Err-clause-light
returns-in-Err-clause-light c = λ base tail fault told.
    c.fault_at_line.ensures ∙ is_told base c.args.progress.now c.line.new.self c.args.number.now c.args.line.now (map line_text c.args.lines.now ++ tail) fault c.in-Err.kind c.in-Err.ensures.light told
