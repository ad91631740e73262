use Rattle.std.proofs.Common.{◌∙◌}
use Rattle.std.specs.Option.{option_copied}
use Rattle.pod_store.proofs.KeptLaws.{there_kept, copied_there}
use Rattle.pod_store.proofs.store.PodStore.has_own.Goals as goal

pub returns : goal.returns
returns c =
    c.is_some.ensures ∙ copied_there c.stored_pod_for.result
    ∙ there_kept c.args.id.now c.self.inside.kept.entries c.self.inside.fallback c.args.self.now (option_copied c.stored_pod_for.result) c.self.view_is c.stored_pod_for.ensures
