use Rattle.std.proofs.Common.{arith}
use Rattle.std.proofs.lemmas.Grind.{common_steps}
use Rattle.playlist_parse.specs.LineViews.{line_view}
use Rattle.playlist_parse.proofs.PathSegments.{segment_line}
use Rattle.playlist_parse.proofs.line.Lines.next_path_segment.Goals as goal

pub returns-clause-line : goal.returns-clause-line
returns-clause-line c =
    let found = c.in-Some.ensures in
    let line = segment_line c.self.inside.start c.self.inside.rest.now c.in-Some.segment.now c.in-Some.later.now (line_view c.line_starting_at.result) found.0 found.1 found.2 found.3 c.line_starting_at.ensures.line in
    grind (arith, common_steps, line)
