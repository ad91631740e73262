use Rattle.std.proofs.Common.{◌≡◌, List, None, subst, sym, ap, ◌∙◌, arith}
use Rattle.std.specs.List.{list_all}
use Rattle.std.proofs.lemmas.Grind.{common_steps}
use Rattle.stitcher.specs.Stitched.{Piece}
use Rattle.stitcher.specs.StitchedSegments.{RefusesNumber, item_fits}
use Rattle.stitcher.specs.RunPods.{AreLeftOf, Runs}
use Rattle.stitcher.specs.Inner.Making.{Made, Passes, PutsPieces, after_front, front_pieces, nothing_made, pieces_between, pieces_of_rest, pieces_on}
use Rattle.stitcher.proofs.Kept.{pieces_front_at}
use Rattle.stitcher.proofs.Known.{common_after_front, known_after_front}
use Rattle.stitcher.proofs.Outcomes.{handed_on, if_ok}
use Rattle.stitcher.proofs.PodsOfRuns.{left_after_front}
use Rattle.stitcher.proofs.Putting.{Walks, walks_none, walks_on, comes_whole, passes_whole, none_left}
use Rattle.stitcher.proofs.Runs.{in_order}
use Rattle.stitcher.proofs.making.stitch.Goals as goal

pub returns-in_err-put_rest-clause-err : goal.returns-in_err-put_rest-clause-err
returns-in_err-put_rest-clause-err c =
    let store = c.args.store.now in
    let ends = c.args.ends.now in
    let made = nothing_made c.args.first in
    let all = pieces_between store ends c.args.marked.now in
    let rest = pieces_of_rest store ends.rest in
    let refused = subst (λ (m : Made). RefusesNumber c.in_err-put_rest.field-0.0 (Passes m rest)) c.new-stitching.ensures c.in_err-put_rest.ensures.err in
    handed_on c.from_residual.result c.in_err-put_rest.field-0.0 c.from_residual.ensures.1 refused
    (λ p. ap (list_all item_fits) (in_order store c.args.first ends c.args.marked.now c.requires.decided)
    ∙ passes_whole made made all rest (pieces_on store ends.so_far None c.args.marked.now) (walks_none made all) p)

pub returns-in_err-rest-clause-err : goal.returns-in_err-rest-clause-err
returns-in_err-rest-clause-err c =
    let store = c.args.store.now in
    let ends = c.args.ends.now in
    let all = pieces_between store ends c.args.marked.now in
    let here = c.in-Some.here.now in
    let rest = c.loop-here.rest.now in
    let previous = c.loop-here.previous.now in
    let walks = subst (λ (ps : List Piece). Walks (nothing_made c.args.first) c.loop-here.stitching all ps) (pieces_front_at store ends.so_far previous rest here c.in-Some.field-0-1.now c.in-Some.ensures.cases.0) c.loop-here.invariant.walks in
    let refused = subst (λ (r : Runs). RefusesNumber c.in_err-rest.field-0.0 (Passes c.loop-here.stitching (front_pieces r.store ends.so_far previous rest))) c.loop-here.invariant.pods c.in_err-rest.ensures.err in
    handed_on c.from_residual-in_err-rest.result c.in_err-rest.field-0.0 c.from_residual-in_err-rest.ensures.1 refused
    (λ p. ap (list_all item_fits) (in_order store c.args.first ends c.args.marked.now c.requires.decided)
    ∙ passes_whole (nothing_made c.args.first) c.loop-here.stitching all (front_pieces store ends.so_far previous rest) (pieces_on store ends.so_far here.mark (after_front rest)) walks p)

pub loop-here-preserved : goal.loop-here-preserved
loop-here-preserved c =
    let store = c.args.store.now in
    let ends = c.args.ends.now in
    let all = pieces_between store ends c.args.marked.now in
    let here = c.in-Some.here.now in
    let rest = c.loop-here.rest.now in
    let previous = c.loop-here.previous.now in
    let walks = subst (λ (ps : List Piece). Walks (nothing_made c.args.first) c.loop-here.stitching all ps) (pieces_front_at store ends.so_far previous rest here c.in-Some.field-0-1.now c.in-Some.ensures.cases.0) c.loop-here.invariant.walks in
    let puts = subst (λ (r : Runs). PutsPieces c.loop-here.stitching c.put_front.new.self (front_pieces r.store ends.so_far previous rest)) c.loop-here.invariant.pods c.in_ok-rest.ensures.ok in
    let more = walks_on (nothing_made c.args.first) c.loop-here.stitching c.put_front.new.self all (front_pieces store ends.so_far previous rest) (pieces_on store ends.so_far here.mark (after_front rest)) walks puts in
    let is : c.in_ok-rest.rest.now ≡ after_front rest = c.in_ok-rest.ensures.left in
    let same = c.in_ok-rest.ensures.kept ∙ c.loop-here.invariant.pods in
    let left = subst (AreLeftOf c.args.marked.now) (sym is) (left_after_front c.args.marked.now rest c.loop-here.invariant.left) in
    record {
      fits = grind (arith, common_steps);
      walks = grind (arith, common_steps);
      fit = grind (arith, common_steps);
      runs = grind (arith, common_steps, known_after_front);
      common = grind (arith, common_steps, common_after_front);
      left = left;
      pods = same;
    }

pub returns-clause-ok : goal.returns-clause-ok
returns-clause-ok c = grind (arith, common_steps, none_left, in_order, comes_whole, if_ok)
