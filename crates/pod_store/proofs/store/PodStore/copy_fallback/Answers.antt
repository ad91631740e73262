use Rattle.std.proofs.Common.{ap, ◌∙◌}
use Rattle.pod_store.specs.Inner.Kept.{PodsById}
use Rattle.pod_store.proofs.KeptLaws.{store_of}
use Rattle.pod_store.proofs.Copies.{truncated}
use Rattle.pod_store.proofs.store.PodStore.copy_fallback.Goals as goal

pub returns-in-Err-clause-err : goal.returns-in-Err-clause-err
returns-in-Err-clause-err c =
    ap (λ (es : PodsById). store_of es c.self-2.inside.fallback) c.truncate.ensures.entries
    ∙ truncated c.self.inside.kept.entries c.self-2.inside.kept.entries c.self.inside.fallback c.self-2.inside.fallback c.args.self.now c.copy_each.new.self c.len-before.result
    c.self.view_is c.len-before.ensures.len c.self-2.view_is c.in-Err.ensures.err
