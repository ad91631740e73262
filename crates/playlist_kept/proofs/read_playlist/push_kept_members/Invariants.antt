use Rattle.std.proofs.Common.{◌≡◌, ◌++◌, length}
use Rattle.playlist_kept.proofs.read_playlist.push_kept_members.Given as goal

abbrev pub invariant-loop-member : goal.invariant-loop-member
invariant-loop-member l = l.list.segments ++ l.rest ≡ l.initial.list.segments ++ l.more

abbrev pub decreases-loop-member : goal.decreases-loop-member
decreases-loop-member l = length l.rest
