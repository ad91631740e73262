use Rattle.std.proofs.Common.{rules}
use Rattle.pod_store.proofs.KeptLaws.{marked_kept}
use Rattle.pod_store.proofs.store.PodStore.adopt.Goals as goal

pub returns-then-has_own-clause-ok : goal.returns-then-has_own-clause-ok
returns-then-has_own-clause-ok c =
    let used = marked_kept c.args.id.now c.self.inside.kept.entries c.mark_stored_pod_used.new.kept.entries c.self.inside.fallback c.args.self.now c.self.view_is c.mark_stored_pod_used.ensures.entries in
    search rules
