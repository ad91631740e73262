-- The attributes of a tag, as tags read them.
use Rattle.std.specs.Prelude.{ℕ, Bool, List, map, Option}
use Rattle.attr_list.specs.declared.attr.Attr.{Attr}
use Rattle.attr_list.specs.Attributes.{Pair}
use Rattle.attr_list.specs.Attrs.{attr_pair}
use Rattle.spec_words.specs.Outcomes as outcomes
use Rattle.playlist_model.specs.Said.{Outcome, value_if}

abbrev pub pairs_of : List Attr → List Pair
pairs_of attrs = map attr_pair attrs

-- the value of an attribute that may be left out, which has to stand in quotes, or has to stand without
abbrev pub optional_tag_value : Bool → Option Pair → Outcome (Option (List ℕ))
optional_tag_value wanted found = outcomes.optional (λ pair. value_if wanted pair.quoted pair.value) found
