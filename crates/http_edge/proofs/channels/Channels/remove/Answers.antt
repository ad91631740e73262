use Rattle.std.proofs.Common.{subst, sym, ◌∙◌, arith}
use Rattle.std.specs.declared.alloc.AllocError.{AllocError}
use Rattle.std.proofs.lemmas.Grind.{common_steps}
use Rattle.http_edge.specs.Edges.{AreGiven}
use Rattle.http_edge.proofs.Turns.{removed_none, removed_some}
use Rattle.http_edge.proofs.channels.Channels.remove.Goals as goal

pub returns-then-not-remove_named : goal.returns-then-not-remove_named
returns-then-not-remove_named c table s = grind (arith, common_steps, removed_none)

pub returns : goal.returns
returns c table s =
    let seen = subst (λ k. AreGiven k table) (sym c.self.view_is) s in
    removed_some AllocError c.self.inside.by_name.entries _ table c.args.name.now _ seen
    (sym c.remove_named.ensures.there ∙ c.if-not-remove_named.false) c.remove_named.ensures.entries c.bare.ensures
