use Rattle.std.proofs.Common.{arith}
use Rattle.std.proofs.lemmas.Grind.{common_steps}
use Rattle.playlist_write.proofs.DateRangeReads.{attributes_say}
use Rattle.playlist_write.proofs.date_ranges.written_text_reads_as_date_range.Goals as goal

pub returns-in-Ok : goal.returns-in-Ok
returns-in-Ok c = grind (arith, common_steps, attributes_say)
