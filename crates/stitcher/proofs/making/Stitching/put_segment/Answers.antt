use Rattle.std.proofs.Common.{◌≡◌, [], ◌∷◌, sym, subst, ◌∙◌, ap, Bool, true, false}
use Rattle.std.specs.Prelude.{ℕ}
use Rattle.stitcher.specs.Stitched.{ad_piece}
use Rattle.stitcher.specs.Inner.Making.{Made, PutsPieces, ad_steps, numbers_with}
use Rattle.stitcher.proofs.Outcomes.{on_ok}
use Rattle.stitcher.proofs.Putting.{puts_one}
use Rattle.stitcher.proofs.making.Stitching.put_segment.Goals as goal

steps_are : (first : Bool) (n : ℕ) → n ≡ mir.Val.bool_byte first → n ≡ ad_steps first
steps_are true n h = h
steps_are false n h = h

pub returns-clause-ok : goal.returns-clause-ok
returns-clause-ok c =
    let made = c.args.self.now in
    let steps = steps_are c.args.first c.from.result c.from.ensures in
    on_ok c.push_ad.result c.push_ad.ensures.ok (λ e mark ad under.
    let p = ad_piece mark c.args.first ad c.args.segment.now in
    subst (λ (m : Made). PutsPieces made m (p ∷ [])) (sym (e mark c.args.first ad under))
    (puts_one made p c.in_ok-numbers.numbers
    (c.in_ok-numbers.ensures.ok.0 ∙ ap (numbers_with made.first made.last) steps) c.in_ok-numbers.ensures.ok.1))
