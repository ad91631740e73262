use Rattle.std.proofs.Common.{◌≡◌, ◌∙◌, ap, false, map, subst, sum, sym, arith}
use Rattle.std.specs.Prelude.{Option, Some, is_none, slice_get}
use Rattle.std.specs.Option.{option_copied}
use Rattle.pod_store.specs.Pods.{segment_count}
use Rattle.stitcher.specs.RunPods.{IsPodOfFirst}
use Rattle.std.proofs.lemmas.Grind.{common_steps}
use Rattle.channel_window.proofs.Sizes.{few_segments, items_of_first}
use Rattle.channel_window.proofs.placing.window_items_of.Goals as goal

pub window_ad_segments_in-requires : goal.window_ad_segments_in-requires
window_ad_segments_in-requires c = grind (arith, common_steps, few_segments)

pub returns-in-Some-2-clause-value : goal.returns-in-Some-2-clause-value
returns-in-Some-2-clause-value c =
    let first : slice_get c.args.left.now 0 ≡ Some c.in-Some.first.now = grind (arith, common_steps) in
    let some : is_none c.in-Some.first.now.mark ≡ false = grind (arith, common_steps) in
    let has = subst (λ (o : Option _). IsPodOfFirst c.args.pods.now.store (option_copied o) c.args.left.now) c.in-Some-2.is c.in_ok-pod.ensures.pod in
    c.window_ad_segments_in.ensures
    ∙ (ap (λ ads. sum (map segment_count ads)) c.ads.ensures.value ∙ sym (items_of_first c.args.pods.now.store c.args.left.now c.in-Some.first.now c.in-Some-2.pod.now first some has))
