use Rattle.std.proofs.Common.{◌≡◌, ◌∷◌, false, arith}
use Rattle.std.specs.Prelude.{is_none, List}
use Rattle.std.proofs.lemmas.Grind.{common_steps}
use Rattle.stitcher.specs.Stitched.{Piece}
use Rattle.stitcher.specs.Making.{is_same_stitched_run}
use Rattle.stitcher.specs.Inner.Making.{PutsPieces, stitched_part_at}
use Rattle.stitcher.proofs.PodsOfRuns.{front_of_break}
use Rattle.stitcher.proofs.making.Stitching.put_front.Goals as goal

pub returns-clause-ok : goal.returns-clause-ok
returns-clause-ok c =
    let segments : c.args.segments.now ≡ c.in-Some.marked.now ∷ c.in-Some.later.now = grind (arith, common_steps) in
    let some : is_none c.in-Some.marked.now.mark ≡ false = grind (arith, common_steps) in
    let new : is_same_stitched_run c.in-Some.marked.now.mark c.args.previous.now ≡ false = grind (arith, common_steps) in
    let part : c.stitched_part_at-part.result ≡ stitched_part_at c.args.ends.now.so_far c.in-Some.marked.now.mark c.in-Some.later.now = grind (arith, common_steps) in
    front_of_break c.args.pods.now.store c.args.ends.now.so_far c.args.previous.now c.args.segments.now c.in-Some.marked.now c.in-Some.later.now c.stitched_part_at-part.result _
    (λ (ps : List Piece). PutsPieces c.args.self.now c.put_break.new.self ps) segments some new part c.in_ok-pod.ensures.pod c.in_ok-put_break.ensures.ok
