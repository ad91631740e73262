use Rattle.std.proofs.Common.{sym, lit<, Some, None}
use Rattle.std.proofs.lemmas.Str.Pattern.{split_parts}
use Rattle.attr_list.proofs.Fronts.{open_quote, quote_cut, text_after_quote, has_quoted}
use Rattle.attr_list.proofs.scan.split_quoted_attribute_value.Goals as goal

pub returns-in-None : goal.returns-in-None
returns-in-None c = open_quote c.args.text.now (split_parts 34 c.args.text.now None c.in-None.ensures.cases (lit< tt))

pub returns-in-Some : goal.returns-in-Some
returns-in-Some c =
    let cut = quote_cut c.args.text.now c.in-Some.value.now c.in-Some.after.now (split_parts 34 c.args.text.now (Some (c.in-Some.value, c.in-Some.after)) c.in-Some.ensures.cases (lit< tt)) in
    has_quoted c.args.text.now c.in-Some.value.now c.in-Some.after.now cut (sym c.if-ends_attribute_pair.ensures)

pub returns-in-Some-2 : goal.returns-in-Some-2
returns-in-Some-2 c =
    let cut = quote_cut c.args.text.now c.in-Some.value.now c.in-Some.after.now (split_parts 34 c.args.text.now (Some (c.in-Some.value, c.in-Some.after)) c.in-Some.ensures.cases (lit< tt)) in
    text_after_quote c.args.text.now c.in-Some.value.now c.in-Some.after.now cut (sym c.if-ends_attribute_pair.ensures)
