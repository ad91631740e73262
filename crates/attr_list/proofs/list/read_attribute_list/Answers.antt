use Rattle.std.proofs.Common.{map, sym, ap, ◌∙◌, rules, lit<, Some, None, inr}
use Rattle.std.proofs.lemmas.Result.{err_from_is_err_and}
use Rattle.std.proofs.lemmas.Str.Pattern.{strip_prefix_char}
use Rattle.attr_list.specs.Attributes.{Pair}
use Rattle.attr_list.specs.Attrs.{attr_pair}
use Rattle.attr_list.proofs.Steps.{read_fault}
use Rattle.attr_list.proofs.Turns.{IsTurn, first_is_read, rest_within, pairs_on, spans_on, pairs_end, spans_end}
use Rattle.attr_list.proofs.list.read_attribute_list.Goals as goal

pub returns-in_err-pair-clause-fault : goal.returns-in_err-pair-clause-fault
returns-in_err-pair-clause-fault c =
    let p = err_from_is_err_and c.from_residual.result c.from_residual.ensures.1 in
    let first = rw c.deref.ensures.value at c.in_err-pair.ensures in
    rw (p.1, p.2) (inr (sym c.loop-attrs.invariant.pairs ∙ read_fault (Some 64) (map attr_pair c.loop-attrs.attrs.items) c.loop-attrs.rest.now _ first))

pub returns-in_err-push-clause-told : goal.returns-in_err-push-clause-told
returns-in_err-push-clause-told c =
    let pair : Pair = record { name = c.in_ok-pair.pair.name.now; value = c.in_ok-pair.pair.value.now; quoted = c.in_ok-pair.pair.quoted } in
    λ e is. absurd (first_is_read c.args.text.now c.loop-attrs.rest.now c.in_ok-pair.pair.after.now pair c.loop-attrs.attrs.items e c.in_ok-pair.ensures.0 (rw c.deref.ensures.value at c.in_ok-pair.ensures.1) c.loop-attrs.invariant.first is)

pub loop-attrs-preserved : goal.loop-attrs-preserved
loop-attrs-preserved c =
    let pair : Pair = record { name = c.in_ok-pair.pair.name.now; value = c.in_ok-pair.pair.value.now; quoted = c.in_ok-pair.pair.quoted } in
    let turn : IsTurn c.args.text.now c.loop-attrs.rest.now c.in_ok-pair.pair.after.now pair c.loop-attrs.attrs.items c.push.new.self.items c.attribute_of_pair.result = record {
      starts = c.in_ok-pair.ensures.0;
      is_read = rw c.deref.ensures.value at c.in_ok-pair.ensures.1;
      said = c.attribute_of_pair.ensures.parts;
      stands = ap (λ s. (s.start, s.end)) c.attribute_of_pair.ensures.place;
      kept = c.in_ok-push.ensures.items;
      within = c.loop-attrs.invariant.within;
    } in
    let next = strip_prefix_char 44 c.in_ok-pair.pair.after.now (Some c.in-Some.next) c.in-Some.ensures.cases (lit< tt) in
    record { utf8 = search rules; within = (rest_within _ _ _ _ _ _ _ _ turn next).1; pairs = pairs_on _ _ _ _ _ _ _ _ _ turn next c.loop-attrs.invariant.pairs; first = λ e is. absurd (first_is_read c.args.text.now c.loop-attrs.rest.now c.in_ok-pair.pair.after.now pair c.loop-attrs.attrs.items e c.in_ok-pair.ensures.0 (rw c.deref.ensures.value at c.in_ok-pair.ensures.1) c.loop-attrs.invariant.first is); spans = spans_on _ _ _ _ _ _ _ _ _ turn next c.loop-attrs.invariant.spans }

pub returns-in-None : goal.returns-in-None
returns-in-None c =
    let pair : Pair = record { name = c.in_ok-pair.pair.name.now; value = c.in_ok-pair.pair.value.now; quoted = c.in_ok-pair.pair.quoted } in
    let turn : IsTurn c.args.text.now c.loop-attrs.rest.now c.in_ok-pair.pair.after.now pair c.loop-attrs.attrs.items c.push.new.self.items c.attribute_of_pair.result = record {
      starts = c.in_ok-pair.ensures.0;
      is_read = rw c.deref.ensures.value at c.in_ok-pair.ensures.1;
      said = c.attribute_of_pair.ensures.parts;
      stands = ap (λ s. (s.start, s.end)) c.attribute_of_pair.ensures.place;
      kept = c.in_ok-push.ensures.items;
      within = c.loop-attrs.invariant.within;
    } in
    let other = strip_prefix_char 44 c.in_ok-pair.pair.after.now None c.in-None.ensures.cases (lit< tt) in
    record { ok = pairs_end _ _ _ _ _ _ _ _ turn other c.loop-attrs.invariant.pairs; fault = tt; told = λ e is. absurd (first_is_read c.args.text.now c.loop-attrs.rest.now c.in_ok-pair.pair.after.now pair c.loop-attrs.attrs.items e c.in_ok-pair.ensures.0 (rw c.deref.ensures.value at c.in_ok-pair.ensures.1) c.loop-attrs.invariant.first is); spans = spans_end _ _ _ _ _ _ _ _ turn other c.loop-attrs.invariant.spans }
