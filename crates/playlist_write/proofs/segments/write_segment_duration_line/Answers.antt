use Rattle.std.proofs.Common.{arith}
use Rattle.std.proofs.lemmas.Grind.{common_steps}
use Rattle.date_times.proofs.Chains.{grown4, as_text}
use Rattle.playlist_write.proofs.TagLines.{duration_parts}
use Rattle.playlist_write.proofs.segments.write_segment_duration_line.Goals as goal

pub returns : goal.returns
returns c = grind (arith, common_steps, as_text, grown4, duration_parts)
