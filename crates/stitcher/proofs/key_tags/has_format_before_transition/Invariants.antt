use Rattle.std.proofs.Common.{◌≡◌}
use Rattle.std.specs.List.{list_any}
use Rattle.playlist_model.specs.LookBack.{has_format}
use Rattle.stitcher.proofs.key_tags.has_format_before_transition.Given as goal

abbrev pub invariant-loop-key : goal.invariant-loop-key
invariant-loop-key l = list_any (has_format l.format) l.key-iterator ≡ list_any (has_format l.format) l.initial.key-iterator
