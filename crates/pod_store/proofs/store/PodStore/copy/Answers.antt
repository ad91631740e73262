use Rattle.std.proofs.Common.{refl, sym, ◌∙◌}
use Rattle.pod_store.specs.Inner.Kept.{pod_kept_for}
use Rattle.pod_store.proofs.KeptLaws.{there_kept}
use Rattle.pod_store.proofs.store.PodStore.copy.Goals as goal

pub put_pod_copy-requires : goal.put_pod_copy-requires
put_pod_copy-requires c =
    there_kept c.args.id.now c.self.inside.kept.entries c.self.inside.fallback c.args.self.now (pod_kept_for c.args.id.now c.self.inside.kept.entries) c.self.view_is refl
    ∙ (sym c.has_own.ensures ∙ c.if-has_own.false)
