use Rattle.std.proofs.Common.{◌≡◌, ◌-◌, ◌≤◌, ◌++◌, [], map, length, Some, Err}
use denote.Text.{Utf8}
use denote.Shadow.{shadow}
use Rattle.attr_list.specs.Attributes.{attributes_of, pair_of, pairs_from, pieces, spans_from}
use Rattle.attr_list.specs.declared.AttrFault.{AttrFault}
use Rattle.attr_list.specs.Scanning.{first_piece}
use Rattle.attr_list.specs.Attrs.{attr_pair, attr_span}
use Rattle.attr_list.proofs.list.read_attribute_list.Given as goal

-- What is left to read gives what the text gives, and so with the places. If the first attribute has a fault,
-- nothing is read yet.
abbrev pub invariant-loop-attrs : goal.invariant-loop-attrs
invariant-loop-attrs l = record {
  utf8 : shadow (Utf8 l.rest);
  within : length l.rest ≤ length l.text;
  pairs : pairs_from (Some 64) (map attr_pair l.attrs.items) (pieces l.rest) ≡ attributes_of (Some 64) l.text;
  first : (e : AttrFault) → pair_of (Some 64) [] (first_piece l.text) ≡ Err e → (l.attrs.items ≡ []) × (l.rest ≡ l.text);
  spans : map attr_span l.attrs.items ++ spans_from (length l.text - length l.rest) (pieces l.rest) ≡ spans_from 0 (pieces l.text);
}

abbrev pub decreases-loop-attrs : goal.decreases-loop-attrs
decreases-loop-attrs l = length l.rest
