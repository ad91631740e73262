use Rattle.std.proofs.Common.{◌≡◌, length}
use Rattle.playlist_model.specs.Numbering.{all_follow}
use Rattle.playlist_write.specs.WellFormed.{out_numbers}
use Rattle.playlist_write.proofs.well_formed.well_formed_numbers_all_follow.Given as goal

abbrev pub invariant-loop-next : goal.invariant-loop-next
invariant-loop-next l = all_follow out_numbers l.previous l.later ≡ all_follow out_numbers l.fn.first l.fn.later

abbrev pub decreases-loop-next : goal.decreases-loop-next
decreases-loop-next l = length l.later
