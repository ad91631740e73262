-- What holds of key tags.
use Rattle.std.specs.Prelude.{◌≡◌, true, List}
use Rattle.playlist_model.specs.declared.Key.{Key}
use Rattle.playlist_model.specs.LookBack.{are_sorted}
use Rattle.stitcher.specs.KeyTags.{transition, after_tags}

-- the tags between two sets of keys, each sorted with one key for each format, lead from the one to the other
abbrev pub TagsLead : Type 0
TagsLead = (old new : List Key) → are_sorted old ≡ true → are_sorted new ≡ true → after_tags old (transition old new) ≡ new
