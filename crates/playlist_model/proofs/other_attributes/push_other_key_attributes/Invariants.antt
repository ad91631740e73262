use Rattle.std.proofs.Common.{◌≡◌, ◌++◌, take, map, string_bytes}
use Rattle.attr_list.specs.Attrs.{attr_pair}
use Rattle.playlist_model.specs.Carried.{after_commas, carried}
use Rattle.playlist_model.proofs.other_attributes.push_other_key_attributes.Given as goal

abbrev pub invariant-loop-attr : goal.invariant-loop-attr
invariant-loop-attr l = string_bytes l.out ≡ string_bytes l.initial.out ++ after_commas (carried (map attr_pair (take l.attr-index l.attrs)))
