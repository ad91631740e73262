use Rattle.std.proofs.Common.{ap, sym, ◌∙◌}
use Rattle.pod_store.specs.Store.{is_one_of}
use Rattle.pod_store.proofs.IdSets.{found}
use Rattle.pod_store.proofs.id_set.IdSet.contains.Goals as goal

pub returns : goal.returns
returns c = c.contains.ensures ∙ (sym (found c.args.id.now c.self.inside.ids.keys) ∙ ap (λ ids. is_one_of ids c.args.id.now) c.self.view_is)
