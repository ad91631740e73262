use Rattle.std.proofs.Common.{arith}
use Rattle.std.proofs.lemmas.Grind.{common_steps}
use Rattle.playlist_parse.proofs.JoinedLines.{after_front}
use Rattle.playlist_parse.proofs.line.Lines.after.Goals as goal

pub returns : goal.returns
returns c = grind (arith, common_steps, after_front)
