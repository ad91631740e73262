use Rattle.std.proofs.Common.{arith}
use Rattle.std.proofs.lemmas.Grind.{common_steps}
use Rattle.playlist_parse.proofs.Reached.{begun}
use Rattle.playlist_parse.proofs.Light.{to_be_told}
use Rattle.playlist_parse.proofs.reading.reading_of_lines.Goals as goal

pub returns : goal.returns
returns c = grind (arith, common_steps, begun, to_be_told)
