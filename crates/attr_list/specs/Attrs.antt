-- What an `Attr` says, and where it stands.
use Rattle.std.specs.Prelude.{ℕ}
use Rattle.attr_list.specs.declared.attr.Attr.{Attr}
use Rattle.attr_list.specs.Attributes.{Pair}

abbrev pub attr_pair : Attr → Pair
attr_pair attr = record { name = attr.name.now; value = attr.value.now; quoted = attr.quoted }

-- where it begins and ends
abbrev pub attr_span : Attr → ℕ × ℕ
attr_span attr = (attr.span.start, attr.span.end)
