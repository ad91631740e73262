use Rattle.std.proofs.Common.{refl, ap, ◌∙◌}
use Rattle.pod_store.specs.Inner.Kept.{PodsById}
use Rattle.pod_store.proofs.KeptLaws.{store_of}
use Rattle.pod_store.proofs.UsedAgain.{used_again}
use Rattle.pod_store.proofs.UsedAll.{used_all}
use Rattle.pod_store.proofs.store.PodStore.keep_in_use.Goals as goal

pub returns-then-are_used_pods-clause-ok : goal.returns-then-are_used_pods-clause-ok
returns-then-are_used_pods-clause-ok c =
    used_again c.self.inside.kept.entries c.self.inside.fallback c.args.self.now c.args.ids.now c.self.view_is c.if-are_used_pods.ensures.unique (c.if-are_used_pods.ensures.used refl)

pub returns-then-are_all_pods-clause-ok : goal.returns-then-are_all_pods-clause-ok
returns-then-are_all_pods-clause-ok c =
    ap (λ (pairs : PodsById). store_of pairs c.self.inside.fallback) c.mark_all_pods_used.ensures
    ∙ used_all c.self.inside.kept.entries c.self.inside.fallback c.args.self.now c.args.ids.now c.self.view_is (c.if-are_all_pods.ensures refl)
