use Rattle.std.proofs.Common.{◌≡◌}
use Rattle.std.specs.List.{list_all}
use Rattle.writable.specs.Fitting.{writable_key_states_iv}
use Rattle.writable.proofs.key_rules.writable_keys_state_ivs.Given as goal

abbrev pub invariant-loop-key : goal.invariant-loop-key
invariant-loop-key l = list_all writable_key_states_iv l.key-iterator ≡ list_all writable_key_states_iv l.initial.key-iterator
