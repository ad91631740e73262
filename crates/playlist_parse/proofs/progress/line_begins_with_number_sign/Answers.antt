use Rattle.std.proofs.Common.{sym, ◌∙◌}
use Rattle.playlist_parse.proofs.LineLemmas.{comment_begins}
use Rattle.playlist_parse.proofs.progress.line_begins_with_number_sign.Goals as goal

pub returns-in-Some : goal.returns-in-Some
returns-in-Some c = comment_begins c.args.line.now c.in-Some.first.now c.in-Some.field-0-1.now (sym c.as_bytes.ensures.value ∙ c.in-Some.ensures.cases.0)
