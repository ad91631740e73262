use Rattle.std.proofs.Common.{rules}
use Rattle.pod_store.specs.Inner.Kept.{is_pair_held, used_if}
use Rattle.pod_store.proofs.InUse.{mapped-RetainsPairs}
use Rattle.pod_store.proofs.kept.keep_in_use.Goals as goal

pub returns : goal.returns
returns c =
    mapped-RetainsPairs _ (is_pair_held c.args.ids.now) (used_if c.args.ids.now) _ (λ k v b w g call. search rules) _ _ c.retain.ensures.filtered
