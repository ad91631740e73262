use Rattle.std.proofs.Common.{sym}
use Rattle.attr_list.proofs.Fronts.{plain_cut, plain_boundary, no_plain, plain_broken, has_plain}
use Rattle.attr_list.proofs.scan.split_plain_attribute_value.Goals as goal
use Rattle.attr_list.proofs.scan.split_plain_attribute_value.Goals.{then-is_empty-via-then-is_empty, then-is_empty-via-else-is_empty+then-not-ends_attribute_pair}

pub split_at-requires : goal.split_at-requires
split_at-requires c = plain_boundary c.args.text.now c.plain_attribute_value_length.result c.utf8.text c.plain_attribute_value_length.ensures

pub returns-then-is_empty : goal.returns-then-is_empty
returns-then-is_empty c =
    let cut = plain_cut c.args.text.now c.split_at.result.0.now c.split_at.result.1.now c.plain_attribute_value_length.result c.plain_attribute_value_length.ensures c.split_at.ensures.front c.split_at.ensures.back in
    elim c.then-is_empty.branch [
      | then-is_empty-via-then-is_empty w ↦ no_plain c.args.text.now c.split_at.result.0.now c.split_at.result.1.now cut c.requires (sym w.if-is_empty.ensures)
      | then-is_empty-via-else-is_empty+then-not-ends_attribute_pair w ↦
          plain_broken c.args.text.now c.split_at.result.0.now c.split_at.result.1.now cut c.requires (sym w.if-is_empty.ensures) (sym w.if-not-ends_attribute_pair.ensures)
    ]

pub returns : goal.returns
returns c =
    let cut = plain_cut c.args.text.now c.split_at.result.0.now c.split_at.result.1.now c.plain_attribute_value_length.result c.plain_attribute_value_length.ensures c.split_at.ensures.front c.split_at.ensures.back in
    has_plain c.args.text.now c.split_at.result.0.now c.split_at.result.1.now cut (sym c.if-is_empty.ensures) (sym c.if-not-ends_attribute_pair.ensures)
