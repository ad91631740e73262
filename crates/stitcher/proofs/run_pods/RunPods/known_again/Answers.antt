use Rattle.std.proofs.Common.{◌≡◌, ◌+◌, ◌∙◌, ap, subst, sym, arith}
use Rattle.std.specs.Prelude.{IfSome}
use Rattle.std.specs.List.{All}
use Rattle.std.proofs.lemmas.Grind.{common_steps}
use Rattle.stitcher.specs.RunPods.{HasRunPod, Runs}
use Rattle.stitcher.proofs.PodsOfRuns.{both_of}
use Rattle.stitcher.proofs.run_pods.RunPods.known_again.Goals as goal

pub returns : goal.returns
returns c =
    let at : c.in_ok-before.before + c.args.first.now.again ≡ c.args.place = grind (arith, common_steps) in
    let known = subst (All (HasRunPod c.self.inside.store.now c.self.inside.marked.now)) (sym c.as_slice.ensures.value) c.self.invariant.1 in
    subst (λ (r : Runs). IfSome c.run_pod_at.result (λ run. HasRunPod r.store r.marked run × (run.place + c.args.first.now.again ≡ c.args.place))) c.self.view_is
    (both_of c.run_pod_at.result (c.run_pod_at.ensures.has c.self.inside.store.now c.self.inside.marked.now known) c.run_pod_at.ensures.place
    (λ run has place. (has, ap (λ p. p + c.args.first.now.again) place ∙ at)))
