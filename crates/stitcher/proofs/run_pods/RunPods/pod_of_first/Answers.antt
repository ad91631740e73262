use Rattle.std.proofs.Common.{◌≡◌, ◌-◌, length, arith}
use Rattle.std.specs.Prelude.{Some, slice_get}
use Rattle.std.specs.Option.{option_copied}
use Rattle.std.proofs.lemmas.Grind.{common_steps}
use Rattle.std.proofs.lemmas.List.Elements.{All-push, All-same}
use Rattle.stitcher.specs.RunPods.{HasRunPod, IsPodOf}
use Rattle.stitcher.proofs.PodsOfRuns.{first_left_at, pod_at}
use Rattle.stitcher.proofs.run_pods.RunPods.pod_of_first.Goals as goal

pub invariant_of-self-2 : goal.invariant_of-self-2
invariant_of-self-2 c =
    let P = HasRunPod c.self.inside.store.now c.self.inside.marked.now in
    let there : slice_get c.self.inside.marked.now (length c.self.inside.marked.now - length c.args.left.now) ≡ Some c.in-Some.first.now = grind (arith, common_steps, first_left_at) in
    let is : IsPodOf c.self.inside.store.now (option_copied c.pod_at-pod.result) c.in-Some.first.now.mark = grind (arith, common_steps) in
    let this = pod_at c.self.inside.store.now c.self.inside.marked.now _ c.in-Some.first.now there is in
    (c.self.invariant.0, All-same P c.push.new.self.items _ c.in_ok-push.ensures.items (All-push P c.self.inside.found.items _ c.self.invariant.1 this))
