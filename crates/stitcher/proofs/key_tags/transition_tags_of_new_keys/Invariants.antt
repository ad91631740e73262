use Rattle.std.proofs.Common.{◌≡◌, ◌++◌, map}
use Rattle.std.specs.Prelude.{filter}
use Rattle.playlist_model.specs.declared.KeyTag.TheVariants.{Set}
use Rattle.stitcher.specs.KeyTags.{is_new_key}
use Rattle.stitcher.proofs.key_tags.transition_tags_of_new_keys.Given as goal

abbrev pub invariant-loop-key : goal.invariant-loop-key
invariant-loop-key l = l.tags.items ++ map Set (filter (is_new_key l.old) l.key-iterator) ≡ map Set (filter (is_new_key l.old) l.initial.key-iterator)
