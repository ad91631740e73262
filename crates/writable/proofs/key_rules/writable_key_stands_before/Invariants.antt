use Rattle.std.proofs.Common.{◌≡◌}
use Rattle.std.specs.List.{list_all}
use Rattle.playlist_model.specs.LookBack.{is_before}
use Rattle.writable.proofs.key_rules.writable_key_stands_before.Given as goal

abbrev pub invariant-loop-other : goal.invariant-loop-other
invariant-loop-other l = list_all (is_before l.key) l.other-iterator ≡ list_all (is_before l.key) l.initial.other-iterator
