use Rattle.std.proofs.Common.{arith, ◌∙◌, ◌∷◌, ap}
use Rattle.std.proofs.lemmas.Grind.{common_steps}
use Rattle.channel_window.proofs.successor.first_changed_of_successor.Goals as goal

pub loop-segment-init : goal.loop-segment-init
loop-segment-init c = record { changed = grind (arith, common_steps); alike = λ next later is. c.successor_not_yet_alike-alike.ensures c.args.shown.now next }

pub is_segment_as_shown-requires-clause-alike : goal.is_segment_as_shown-requires-clause-alike
is_segment_as_shown-requires-clause-alike c = c.loop-segment.invariant.alike c.in-Some.segment c.in-Some.later c.in-Some.ensures

pub loop-segment-preserved : goal.loop-segment-preserved
loop-segment-preserved c = record {
  changed = grind (arith, common_steps);
  alike = λ next later is. c.successor_alike_after-alike.ensures next (c.second_in_common.ensures c.in-Some.segment next later (c.in-Some.ensures ∙ ap (λ rest. c.in-Some.segment ∷ rest) is));
}
