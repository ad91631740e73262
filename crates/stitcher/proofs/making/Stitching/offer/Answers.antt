use Rattle.std.proofs.Common.{List, sym, subst, ◌∙◌}
use Rattle.stitcher.specs.Stitched.{Piece, ad_piece}
use Rattle.stitcher.specs.Inner.Making.{PutsPieces, Passes}
use Rattle.stitcher.proofs.Outcomes.{handed_on}
use Rattle.stitcher.proofs.Parts.{is_here}
use Rattle.stitcher.proofs.making.Stitching.offer.Goals as goal

pub returns-in_err-put_segment-clause-err : goal.returns-in_err-put_segment-clause-err
returns-in_err-put_segment-clause-err c =
    let shown = sym c.stitched_part_shows_next.ensures ∙ c.if-not-stitched_part_shows_next.false in
    handed_on c.from_residual.result c.in_err-put_segment.field-0.0 c.from_residual.ensures.1 c.in_err-put_segment.ensures.err
    (λ p mark ad. subst (λ (ps : List Piece). Passes c.args.self.now ps) (is_here c.args.part.now (ad_piece mark c.args.first ad c.args.segment.now) shown) (p mark ad))

pub returns-clause-ok : goal.returns-clause-ok
returns-clause-ok c mark ad under =
    let shown = sym c.stitched_part_shows_next.ensures ∙ c.if-not-stitched_part_shows_next.false in
    subst (λ (ps : List Piece). PutsPieces c.args.self.now c.put_segment.new.self ps) (is_here c.args.part.now (ad_piece mark c.args.first ad c.args.segment.now) shown) (c.in_ok-put_segment.ensures.ok mark ad under)
