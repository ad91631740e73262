use Rattle.std.proofs.Common.{◌≡◌, ◌⊎◌, ℕ, ◌≤◌, List, map, length, inl, inr, Some, Err, arith}
use Rattle.std.proofs.lemmas.Result.{err_from_is_err_and}
use Rattle.std.proofs.lemmas.Grind.{common_steps}
use Rattle.attr_list.specs.declared.AttrFault.{AttrFault}
use Rattle.attr_list.specs.declared.AttrFault.TheVariants.{OutOfMemory}
use Rattle.attr_list.specs.Attributes.{Pair, IsAttributeList, attributes_of}
use Rattle.attr_list.specs.Attrs.{attr_pair}
use Rattle.attr_list.proofs.Limits.{limited_are_apart, limited_is_list, same_pairs, no_fault, limited_pieces}
use Rattle.attr_list.proofs.Slices.{slices_are_pieces}
use Rattle.attr_list.proofs.list.AttrList.read.Goals as goal

out_of_memory : (text : List ℕ) (pairs : List Pair) (fault : AttrFault) → (fault ≡ OutOfMemory) ⊎ (attributes_of (Some 64) text ≡ Err fault) → IsAttributeList text pairs → length pairs ≤ 64 → fault ≡ OutOfMemory
out_of_memory text pairs fault (inl h) list few = h
out_of_memory text pairs fault (inr h) list few = absurd (no_fault 64 text pairs fault h list few)

pub returns-in_err-attrs-clause-reads : goal.returns-in_err-attrs-clause-reads
returns-in_err-attrs-clause-reads c =
    let p = err_from_is_err_and c.from_residual.result c.from_residual.ensures.1 in
    λ pairs list few. rw (p.1, p.2) (out_of_memory c.args.text.now pairs c.in_err-attrs.field-0.0 c.in_err-attrs.ensures.fault list few)

pub returns-clause-list : goal.returns-clause-list
returns-clause-list c = limited_is_list 64 c.args.text.now (map attr_pair c.in_ok-attrs.attrs.items) c.in_ok-attrs.ensures.ok

pub returns-clause-reads : goal.returns-clause-reads
returns-clause-reads c = λ pairs list few. same_pairs 64 c.args.text.now (map attr_pair c.in_ok-attrs.attrs.items) pairs c.in_ok-attrs.ensures.ok list few

pub returns-clause-slices : goal.returns-clause-slices
returns-clause-slices c = grind (arith, common_steps, limited_pieces, slices_are_pieces)

pub invariant_of-result : goal.invariant_of-result
invariant_of-result c = limited_are_apart 64 c.args.text.now (map attr_pair c.in_ok-attrs.attrs.items) c.in_ok-attrs.ensures.ok
