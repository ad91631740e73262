use Rattle.std.proofs.Common.{rules}
use Rattle.pod_store.proofs.KeptLaws.{without_kept}
use Rattle.pod_store.proofs.store.PodStore.withdraw.Goals as goal

pub returns : goal.returns
returns c =
    let left = without_kept c.args.id.now c.self.inside.kept.entries c.remove_stored_pod.new.kept.entries c.self.inside.fallback c.args.self.now c.self.view_is c.remove_stored_pod.ensures in
    search rules
