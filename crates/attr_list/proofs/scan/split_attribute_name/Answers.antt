use Rattle.std.proofs.Common.{sym, lit<, Some, None}
use Rattle.std.proofs.lemmas.Str.Pattern.{strip_prefix_char}
use Rattle.attr_list.proofs.Fronts.{name_cut, name_boundary, no_name, has_name, name_alone, name_broken}
use Rattle.attr_list.proofs.scan.split_attribute_name.Goals as goal

pub split_at-requires : goal.split_at-requires
split_at-requires c = name_boundary c.args.text.now c.attribute_name_length.result c.utf8.text c.attribute_name_length.ensures

pub returns-then-is_empty : goal.returns-then-is_empty
returns-then-is_empty c =
    let cut = name_cut c.args.text.now c.split_at.result.0.now c.split_at.result.1.now c.attribute_name_length.result c.attribute_name_length.ensures c.split_at.ensures.front c.split_at.ensures.back in
    no_name c.args.text.now c.split_at.result.0.now c.split_at.result.1.now cut (sym c.if-is_empty.ensures)

pub returns-in-Some : goal.returns-in-Some
returns-in-Some c =
    let cut = name_cut c.args.text.now c.split_at.result.0.now c.split_at.result.1.now c.attribute_name_length.result c.attribute_name_length.ensures c.split_at.ensures.front c.split_at.ensures.back in
    let found = strip_prefix_char 61 c.split_at.result.1.now (Some c.in-Some.value) c.in-Some.ensures.cases (lit< tt) in
    has_name c.args.text.now c.split_at.result.0.now c.split_at.result.1.now c.in-Some.value.now cut (sym c.if-is_empty.ensures) found

pub returns-in-None : goal.returns-in-None
returns-in-None c =
    let cut = name_cut c.args.text.now c.split_at.result.0.now c.split_at.result.1.now c.attribute_name_length.result c.attribute_name_length.ensures c.split_at.ensures.front c.split_at.ensures.back in
    name_alone c.args.text.now c.split_at.result.0.now c.split_at.result.1.now cut (sym c.if-is_empty.ensures) (sym c.if-ends_attribute_pair.ensures)

pub returns-in-None-2 : goal.returns-in-None-2
returns-in-None-2 c =
    let cut = name_cut c.args.text.now c.split_at.result.0.now c.split_at.result.1.now c.attribute_name_length.result c.attribute_name_length.ensures c.split_at.ensures.front c.split_at.ensures.back in
    let other = strip_prefix_char 61 c.split_at.result.1.now None c.in-None.ensures.cases (lit< tt) in
    name_broken c.args.text.now c.split_at.result.0.now c.split_at.result.1.now cut (sym c.if-is_empty.ensures) other (sym c.if-ends_attribute_pair.ensures)
