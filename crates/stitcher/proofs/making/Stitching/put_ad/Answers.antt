use Rattle.std.proofs.Common.{[], ◌∷◌, List, map, sym, subst, ap, ◌∙◌, true, false, arith}
use Rattle.std.proofs.lemmas.Grind.{common_steps}
use Rattle.pod_store.specs.Marks.{Mark}
use Rattle.pod_store.specs.Pods.{Ad, PodSegment}
use Rattle.stitcher.specs.Stitched.{ad_piece, ad_pieces}
use Rattle.stitcher.specs.declared.making.Part.{Part}
use Rattle.stitcher.specs.Inner.Making.{Made, Passes, numbers_fit, part_here, pieces_in_part, part_after_one}
use Rattle.stitcher.proofs.Ads.{begun_under}
use Rattle.stitcher.proofs.Outcomes.{handed_on}
use Rattle.stitcher.proofs.Putting.{Walks, walks_under, walks_on, walked, passes_there, none_left}
use Rattle.stitcher.proofs.making.Stitching.put_ad.Goals as goal

any_mark : Mark
any_mark = record { id = []; pod = record { ads = [] } }

pub returns-in_err-left-clause-err : goal.returns-in_err-left-clause-err
returns-in_err-left-clause-err c =
    let ad = c.args.ad.now in
    let part = c.args.part in
    let old = c.args.self.now in
    let begun = c.begin_ad.new.self in
    let segment = c.in-Some.first.now in
    let later = c.in-Some.later.now in
    let parts = sym (ap (λ (a : Ad). a.segments) c.ad.view_is) ∙ (sym c.as_slice.ensures ∙ c.in-Some.ensures.cases.0) in
    handed_on c.from_residual-in_err-left.result c.in_err-left.field-0.0 c.from_residual-in_err-left.ensures.1 c.in_err-left.ensures.err
    (λ p mark. subst (λ (ss : List PodSegment). Passes old (pieces_in_part part (ad_pieces mark ad ss))) (sym parts)
    (passes_there old begun (pieces_in_part part (ad_pieces mark ad (segment ∷ later))) (part_here part (ad_piece mark true ad segment)) (pieces_in_part (part_after_one part segment.duration) (map (ad_piece mark false ad) later))
    (walks_under old begun ad (pieces_in_part part (ad_pieces mark ad (segment ∷ later))) c.in_ok-begin_ad.ensures.ok) (p mark ad)))

pub loop-segment-init : goal.loop-segment-init
loop-segment-init c =
    let ad = c.args.ad.now in
    let part = c.args.part in
    let old = c.args.self.now in
    let begun = c.begin_ad.new.self in
    let under = begun_under old begun ad c.in_ok-begin_ad.ensures.ok c.requires.rules in
    let put = c.in_ok-left.ensures.ok in
    let segment = c.in-Some.first.now in
    let later = c.in-Some.later.now in
    let parts = sym (ap (λ (a : Ad). a.segments) c.ad.view_is) ∙ (sym c.as_slice.ensures ∙ c.in-Some.ensures.cases.0) in
    record {
      fits = ap numbers_fit ((put any_mark ad under).first ∙ ap (λ (m : Made). m.first) c.in_ok-begin_ad.ensures.ok) ∙ c.requires.fits;
      under = c.in_ok-left.ensures.under ad under;
      walks = λ mark. subst (λ (ss : List PodSegment). Walks old c.offer.new.self (pieces_in_part part (ad_pieces mark ad ss)) (pieces_in_part c.in_ok-left.left (map (ad_piece mark false ad) later))) (sym parts)
          (subst (λ (left : Part). Walks old c.offer.new.self (pieces_in_part part (ad_pieces mark ad (segment ∷ later))) (pieces_in_part left (map (ad_piece mark false ad) later))) (sym c.in_ok-left.ensures.part)
          (walks_on old begun c.offer.new.self (pieces_in_part part (ad_pieces mark ad (segment ∷ later))) (part_here part (ad_piece mark true ad segment)) (pieces_in_part (part_after_one part segment.duration) (map (ad_piece mark false ad) later))
          (walks_under old begun ad (pieces_in_part part (ad_pieces mark ad (segment ∷ later))) c.in_ok-begin_ad.ensures.ok) (put mark ad under)));
      after = grind (arith, common_steps);
    }

pub returns-in_err-left-2-clause-err : goal.returns-in_err-left-2-clause-err
returns-in_err-left-2-clause-err c =
    let ad = c.args.ad.now in
    let part = c.loop-segment.left in
    let segment = c.in-Some-split_first.segment.now in
    handed_on c.from_residual-in_err-left-2.result c.in_err-left-2.field-0.0 c.from_residual-in_err-left-2.ensures.1 c.in_err-left-2.ensures.err
    (λ p mark. passes_there c.args.self.now c.loop-segment.self (pieces_in_part c.args.part (ad_pieces mark ad ad.segments)) (part_here part (ad_piece mark false ad segment)) (pieces_in_part (part_after_one part segment.duration) (map (ad_piece mark false ad) c.in-Some-split_first.later.now))
    (subst (λ (ss : List PodSegment). Walks c.args.self.now c.loop-segment.self (pieces_in_part c.args.part (ad_pieces mark ad ad.segments)) (pieces_in_part part (map (ad_piece mark false ad) ss))) c.in-Some-split_first.ensures.cases.0 (c.loop-segment.invariant.walks mark)) (p mark ad))

pub loop-segment-preserved : goal.loop-segment-preserved
loop-segment-preserved c =
    let ad = c.args.ad.now in
    let part = c.loop-segment.left in
    let under = c.loop-segment.invariant.under in
    let put = c.in_ok-left-2.ensures.ok in
    let segment = c.in-Some-split_first.segment.now in
    let later = c.in-Some-split_first.later.now in
    record {
      fits = ap numbers_fit (put any_mark ad under).first ∙ c.loop-segment.invariant.fits;
      under = c.in_ok-left-2.ensures.under ad under;
      walks = λ mark. subst (λ (left : Part). Walks c.args.self.now c.offer-in-Some-split_first.new.self (pieces_in_part c.args.part (ad_pieces mark ad ad.segments)) (pieces_in_part left (map (ad_piece mark false ad) later))) (sym c.in_ok-left-2.ensures.part)
          (walks_on c.args.self.now c.loop-segment.self c.offer-in-Some-split_first.new.self (pieces_in_part c.args.part (ad_pieces mark ad ad.segments)) (part_here part (ad_piece mark false ad segment)) (pieces_in_part (part_after_one part segment.duration) (map (ad_piece mark false ad) later))
          (subst (λ (ss : List PodSegment). Walks c.args.self.now c.loop-segment.self (pieces_in_part c.args.part (ad_pieces mark ad ad.segments)) (pieces_in_part part (map (ad_piece mark false ad) ss))) c.in-Some-split_first.ensures.cases.0 (c.loop-segment.invariant.walks mark)) (put mark ad under));
      after = grind (arith, common_steps);
    }

pub returns-clause-ok : goal.returns-clause-ok
returns-clause-ok c mark =
    let ad = c.args.ad.now in
    walked c.args.self.now c.loop-segment.self (pieces_in_part c.args.part (ad_pieces mark ad ad.segments))
    (subst (λ (ss : List PodSegment). Walks c.args.self.now c.loop-segment.self (pieces_in_part c.args.part (ad_pieces mark ad ad.segments)) (pieces_in_part c.loop-segment.left (map (ad_piece mark false ad) ss))) (none_left c.loop-segment.rest.now c.in_default-split_first.ensures.cases) (c.loop-segment.invariant.walks mark))

pub returns-clause-part : goal.returns-clause-part
returns-clause-part c mark = grind (arith, common_steps, none_left)
