use Rattle.std.proofs.Common.{length}
use Rattle.playlist_parse.proofs.line.end_of_segment_lines.Given as goal

abbrev pub decreases-loop-feed : goal.decreases-loop-feed
decreases-loop-feed l = length l.rest
