use Rattle.std.proofs.Common.{ap, sym, ◌∙◌, not}
use Rattle.pod_store.specs.Store.{is_one_of}
use Rattle.pod_store.proofs.IdSets.{found, after_insert}
use Rattle.pod_store.proofs.id_set.IdSet.insert.Goals as goal

pub returns-clause-first : goal.returns-clause-first
returns-clause-first c =
    c.in_ok-insert.ensures.added ∙ ap not (sym (found c.args.id.now c.self.inside.ids.keys) ∙ ap (λ ids. is_one_of ids c.args.id.now) c.self.view_is)

pub returns-clause-ids : goal.returns-clause-ids
returns-clause-ids c =
    after_insert c.self.inside.ids.keys c.insert.new.self.keys c.args.id c.args.self.now c.in_ok-insert.field-0 c.self.view_is c.in_ok-insert.ensures.keys
    (c.in_ok-insert.ensures.added ∙ ap not (sym (found c.args.id.now c.self.inside.ids.keys) ∙ ap (λ ids. is_one_of ids c.args.id.now) c.self.view_is))
