use Rattle.std.proofs.Common.{◌≡◌}
use Rattle.std.specs.List.{list_all}
use Rattle.writable.specs.Fitting.{key_is_writable}
use Rattle.writable.proofs.key_rules.all_keys_are_writable.Given as goal

abbrev pub invariant-loop-key : goal.invariant-loop-key
invariant-loop-key l = list_all key_is_writable l.key-iterator ≡ list_all key_is_writable l.initial.key-iterator
