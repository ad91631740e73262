use Rattle.std.proofs.Common.{◌≡◌, ◌∙◌, ◌∷◌, ◌++◌, [], sym, arith, append_assoc}
use Rattle.std.proofs.lemmas.Grind.{common_steps}
use Rattle.timeline.specs.Reckoned.{reckoned}
use Rattle.timeline.proofs.reckoned_beginnings.Goals as goal

pub loop-segment-preserved : goal.loop-segment-preserved
loop-segment-preserved c =
    let i = c.loop-segment.invariant in
    let s = c.in-Some.segment in
    let whole : c.in-Some.before ++ s ∷ i.later ≡ c.args.segments.now = sym (append_assoc c.in-Some.before (s ∷ []) i.later) ∙ grind (arith, common_steps) in
    let after_is : c.beginning_reckoned_here-after.result ≡ reckoned (s ∷ i.later) = grind (arith, common_steps) in
    record { later = s ∷ i.later; whole = whole; stack_is = grind (arith, common_steps, after_is); after_is = after_is }
