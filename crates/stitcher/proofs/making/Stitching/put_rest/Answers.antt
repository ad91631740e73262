use Rattle.std.proofs.Common.{◌≡◌, arith}
use Rattle.std.specs.Prelude.{List, Some}
use Rattle.std.specs.Option.{option_copied}
use Rattle.std.proofs.lemmas.Grind.{common_steps}
use Rattle.pod_store.specs.Store.{pod_for}
use Rattle.stitcher.specs.Stitched.{Piece}
use Rattle.stitcher.specs.Inner.Making.{PutsPieces, whole_from}
use Rattle.stitcher.proofs.Outcomes.{on_ok}
use Rattle.stitcher.proofs.PodsOfRuns.{rest_of_break}
use Rattle.stitcher.proofs.making.Stitching.put_rest.Goals as goal

pub returns-clause-ok : goal.returns-clause-ok
returns-clause-ok c =
    let is : c.args.rest.now ≡ Some c.in-Some.rest = grind (arith, common_steps) in
    let id : c.as_str.result.now ≡ c.in-Some.rest.id = grind (arith, common_steps) in
    let part : c.stitched_part_from_place-part.result ≡ whole_from c.in-Some.rest.place = grind (arith, common_steps) in
    let pod : option_copied c.pod_for.result ≡ pod_for c.args.store.now c.as_str.result.now = grind (arith, common_steps) in
    on_ok c.put_break.result c.put_break.ensures.ok (λ p.
    rest_of_break c.args.store.now c.args.rest.now c.in-Some.rest c.as_str.result.now c.stitched_part_from_place-part.result _ (λ (ps : List Piece). PutsPieces c.args.self.now c.put_break.new.self ps) is id part pod p)
