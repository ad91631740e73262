use Rattle.std.proofs.Common.{◌≡◌}
use Rattle.std.specs.List.{list_any}
use Rattle.playlist_model.specs.Same.{same_key}
use Rattle.stitcher.proofs.key_tags.is_key_among_stitched.Given as goal

abbrev pub invariant-loop-other : goal.invariant-loop-other
invariant-loop-other l = list_any (same_key l.key) l.other-iterator ≡ list_any (same_key l.key) l.initial.other-iterator
