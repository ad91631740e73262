use Rattle.std.proofs.Common.{◌≡◌}
use Rattle.std.specs.Cmp.Lexicographic.{pointwise}
use Rattle.playlist_model.specs.Same.{same_key}
use Rattle.playlist_model.specs.InCommon.{AreSameAt}
use Rattle.playlist_model.proofs.same.are_same_keys_in_common.Given as goal

abbrev pub invariant-loop-key : goal.invariant-loop-key
invariant-loop-key l =
    (pointwise same_key l.key-iterator l.others ≡ pointwise same_key l.initial.key-iterator l.initial.others) × AreSameAt l.places l.key-iterator l.others
