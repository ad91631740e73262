use Rattle.std.proofs.Common.{◌≡◌, length}
use Rattle.playlist_model.specs.LookBack.{are_sorted}
use Rattle.writable.proofs.key_rules.are_writable_keys_sorted.Given as goal

abbrev pub invariant-loop-key : goal.invariant-loop-key
invariant-loop-key l = are_sorted l.later ≡ are_sorted l.initial.later

abbrev pub decreases-loop-key : goal.decreases-loop-key
decreases-loop-key l = length l.later
