use Rattle.std.proofs.Common.{arith}
use Rattle.std.proofs.lemmas.Grind.{common_steps}
use Rattle.playlist_parse.proofs.LineLemmas.{uri_line}
use Rattle.playlist_parse.proofs.progress.Progress.unmarked_line.Goals as goal

pub returns-clause-takes : goal.returns-clause-takes
returns-clause-takes c = grind (arith, common_steps, uri_line)
