use Rattle.std.proofs.Common.{◌≡◌, ◌++◌, length}
use Rattle.playlist_parse.proofs.date_ranges.share_date_ranges_read.Given as goal

abbrev pub invariant-loop-date_range : goal.invariant-loop-date_range
invariant-loop-date_range l = l.list.items ++ l.rest ≡ l.initial.list.items ++ l.more

abbrev pub decreases-loop-date_range : goal.decreases-loop-date_range
decreases-loop-date_range l = length l.rest
