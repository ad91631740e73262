use Rattle.std.proofs.Common.{rules, tests, ap, ◌∙◌}
use Rattle.std.specs.List.{position_or_len}
use Rattle.std.proofs.lemmas.Iterator.{YieldsList-from_slice}
use Rattle.std.proofs.lemmas.Iterator.Search.{position_from_yields_List}
use Rattle.attr_list.specs.Attributes.{ends_plain}
use Rattle.attr_list.proofs.Cuts.{position_unwrapped}
use Rattle.attr_list.proofs.scan.plain_attribute_value_length.Goals as goal

pub returns : goal.returns
returns c =
    let bytes = c.as_bytes-bytes.result.now in
    let found = position_from_yields_List ends_plain _ _ c.position.result c.position.ensures.ran (YieldsList-from_slice bytes cc) (λ x b q k. search (rules, tests)) in
    c.unwrap_or.ensures ∙ position_unwrapped ends_plain bytes c.position.result found ∙ ap (position_or_len ends_plain) c.as_bytes-bytes.ensures.value
