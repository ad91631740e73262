use Rattle.std.proofs.Common.{arith}
use Rattle.std.proofs.lemmas.Grind.{common_steps}
use Rattle.playlist_write.proofs.DateRangeReads.{told}
use Rattle.playlist_write.proofs.date_ranges.is_written_time.Goals as goal

pub returns : goal.returns
returns c = grind (arith, common_steps, told)
