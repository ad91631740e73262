use Rattle.std.proofs.Common.{arith}
use Rattle.std.proofs.lemmas.Grind.{common_steps}
use Rattle.playlist_parse.proofs.ParsedDateRanges.{met_next}
use Rattle.playlist_parse.proofs.date_ranges.ParsedDateRanges.meets.Goals as goal

pub returns-clause-met : goal.returns-clause-met
returns-clause-met c e = grind (arith, common_steps, met_next)
