use Rattle.std.proofs.Common.{true, ap, ◌∙◌, String, rules}
use Rattle.std.specs.declared.alloc.Global.{Global}
use Rattle.pod_store.specs.declared.kept.StoredPod.{StoredPod}
use Rattle.pod_store.specs.Inner.Kept.{PodsById, all_marked}
use Rattle.pod_store.proofs.InUse.{mapped-RetainsPairs}
use Rattle.pod_store.proofs.UsedAll.{kept_each}
use Rattle.pod_store.proofs.kept.mark_all_pods_used.Goals as goal

pub returns : goal.returns
returns c =
    mapped-RetainsPairs _ (λ (pair : String Global × StoredPod). true) (λ (id : String Global) (kept : StoredPod). record kept { used = true }) _ (λ k v b w g call. search rules) _ _ c.retain.ensures.filtered
    ∙ ap (λ (pairs : PodsById). all_marked pairs) (kept_each c.args.kept.now.entries)
