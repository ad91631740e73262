use Rattle.std.proofs.Common.{◌≡◌, ◌++◌, ◌∷◌, map}
use Rattle.playlist_model.specs.declared.KeyTag.TheVariants.{End, Set}
use Rattle.stitcher.proofs.key_tags.transition_tags_after_end.Given as goal

abbrev pub invariant-loop-key : goal.invariant-loop-key
invariant-loop-key l = l.tags.items ++ map Set l.key-iterator ≡ End ∷ map Set l.initial.key-iterator
