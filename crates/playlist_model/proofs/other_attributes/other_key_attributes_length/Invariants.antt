use Rattle.std.proofs.Common.{◌≤◌, length, map, take}
use Rattle.attr_list.specs.Attrs.{attr_pair}
use Rattle.playlist_model.specs.Carried.{after_commas, carried}
use Rattle.playlist_model.proofs.other_attributes.other_key_attributes_length.Given as goal

abbrev pub invariant-loop-attr : goal.invariant-loop-attr
invariant-loop-attr l = l.length ≤ length (after_commas (carried (map attr_pair (take l.attr-index l.attrs))))
