use Rattle.std.proofs.Common.{[], List, sym, subst, ap, ◌∙◌, arith}
use Rattle.std.proofs.lemmas.Grind.{common_steps}
use Rattle.pod_store.specs.Marks.{Mark}
use Rattle.pod_store.specs.Pods.{Ad}
use Rattle.stitcher.specs.Stitched.{Piece, ad_pieces, pieces_of_ads}
use Rattle.stitcher.specs.declared.making.Part.{Part}
use Rattle.stitcher.specs.Inner.Making.{numbers_fit, pieces_in_part, stitched_part_after}
use Rattle.stitcher.proofs.Ads.{each_keeps, kept_first, kept_others}
use Rattle.stitcher.proofs.Outcomes.{handed_on}
use Rattle.stitcher.proofs.Parts.{part_append, done_of}
use Rattle.stitcher.proofs.Putting.{Walks, walks_none, walks_on, walked, passes_there, none_left}
use Rattle.stitcher.proofs.making.Stitching.put_pod.Goals as goal

any_mark : Mark
any_mark = record { id = []; pod = record { ads = [] } }

pub loop-ad-init : goal.loop-ad-init
loop-ad-init c = grind (arith, common_steps, walks_none, each_keeps)

pub put_ad-requires-clause-rules : goal.put_ad-requires-clause-rules
put_ad-requires-clause-rules c = grind (arith, common_steps, kept_first)

pub returns-then-left-clause-ok : goal.returns-then-left-clause-ok
returns-then-left-clause-ok c mark =
    let all = pieces_in_part c.args.part (pieces_of_ads mark c.args.pod.now.ads) in
    walked c.args.self.now c.loop-ad.self all
    (subst (λ (ps : List Piece). Walks c.args.self.now c.loop-ad.self all ps) (done_of c.loop-ad.left (pieces_of_ads mark c.loop-ad.rest.now) c.if-left.true) (c.loop-ad.invariant.walks mark))

pub returns-in_err-left-clause-err : goal.returns-in_err-left-clause-err
returns-in_err-left-clause-err c =
    let ad = c.in-Some.ad.now in
    let later = c.in-Some.later.now in
    let part = c.loop-ad.left in
    handed_on c.from_residual.result c.in_err-left.field-0.0 c.from_residual.ensures.1 c.in_err-left.ensures.err
    (λ p mark.
    let here = ad_pieces mark ad ad.segments in
    let all = pieces_in_part c.args.part (pieces_of_ads mark c.args.pod.now.ads) in
    passes_there c.args.self.now c.loop-ad.self all (pieces_in_part part here) (pieces_in_part (stitched_part_after part here) (pieces_of_ads mark later))
    (subst (λ (ps : List Piece). Walks c.args.self.now c.loop-ad.self all ps) (part_append part here (pieces_of_ads mark later))
    (subst (λ (ads : List Ad). Walks c.args.self.now c.loop-ad.self all (pieces_in_part part (pieces_of_ads mark ads))) c.in-Some.ensures.cases.0 (c.loop-ad.invariant.walks mark))) (p mark))

pub loop-ad-preserved : goal.loop-ad-preserved
loop-ad-preserved c =
    let ad = c.in-Some.ad.now in
    let later = c.in-Some.later.now in
    let part = c.loop-ad.left in
    let put = c.in_ok-left.ensures.ok in
    record {
      fits = ap numbers_fit (put any_mark).first ∙ c.loop-ad.invariant.fits;
      rules = grind (arith, common_steps, kept_others);
      walks = λ mark.
          let here = ad_pieces mark ad ad.segments in
          let all = pieces_in_part c.args.part (pieces_of_ads mark c.args.pod.now.ads) in
          subst (λ (left : Part). Walks c.args.self.now c.put_ad.new.self all (pieces_in_part left (pieces_of_ads mark later))) (sym (c.in_ok-left.ensures.part mark))
          (walks_on c.args.self.now c.loop-ad.self c.put_ad.new.self all (pieces_in_part part here) (pieces_in_part (stitched_part_after part here) (pieces_of_ads mark later))
          (subst (λ (ps : List Piece). Walks c.args.self.now c.loop-ad.self all ps) (part_append part here (pieces_of_ads mark later))
          (subst (λ (ads : List Ad). Walks c.args.self.now c.loop-ad.self all (pieces_in_part part (pieces_of_ads mark ads))) c.in-Some.ensures.cases.0 (c.loop-ad.invariant.walks mark))) (put mark));
    }

pub returns-clause-ok : goal.returns-clause-ok
returns-clause-ok c mark =
    let all = pieces_in_part c.args.part (pieces_of_ads mark c.args.pod.now.ads) in
    walked c.args.self.now c.loop-ad.self all
    (subst (λ (ads : List Ad). Walks c.args.self.now c.loop-ad.self all (pieces_in_part c.loop-ad.left (pieces_of_ads mark ads))) (none_left c.loop-ad.rest.now c.in_default.ensures.cases) (c.loop-ad.invariant.walks mark))
