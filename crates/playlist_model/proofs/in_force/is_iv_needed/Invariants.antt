use Rattle.std.proofs.Common.{◌≡◌}
use Rattle.std.specs.List.{list_any}
use Rattle.playlist_model.specs.Reading.{key_needs_iv}
use Rattle.playlist_model.proofs.in_force.is_iv_needed.Given as goal

abbrev pub invariant-loop-key : goal.invariant-loop-key
invariant-loop-key l = list_any key_needs_iv l.key-iterator ≡ list_any key_needs_iv l.initial.key-iterator
