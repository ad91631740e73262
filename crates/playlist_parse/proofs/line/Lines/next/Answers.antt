use Rattle.std.proofs.Common.{arith}
use Rattle.std.proofs.lemmas.Grind.{common_steps}
use Rattle.playlist_parse.proofs.Places.{first_line}
use Rattle.playlist_parse.proofs.line.Lines.next.Goals as goal

pub returns : goal.returns
returns c = grind (arith, common_steps, first_line)
