use Rattle.std.proofs.Common.{arith, sym, ◌∙◌}
use Rattle.std.proofs.lemmas.Grind.{common_steps}
use Rattle.playlist_model.proofs.SameInCommon.{first_of_walk, later_of_walk}
use Rattle.stitcher.proofs.key_tags.transition_keeps_formats_in_front.Goals as goal

pub have_transition_keys_one_format-requires : goal.have_transition_keys_one_format-requires
have_transition_keys_one_format-requires c =
    λ is. first_of_walk c.loop-key.places c.loop-key.key-iterator c.loop-key.others c.next.new.self c.next-in-loop-key.new.self c.in-Some.key c.in-Some-next.other c.in-Some.ensures.steps c.in-Some-next.ensures.steps c.loop-key.invariant.same
    (sym c.holds_first.ensures ∙ is)

pub loop-key-preserved : goal.loop-key-preserved
loop-key-preserved c = record {
  kept = grind (arith, common_steps);
  among = grind (arith, common_steps);
  same = later_of_walk c.loop-key.places c.later-places.result c.loop-key.key-iterator c.loop-key.others c.next.new.self c.next-in-loop-key.new.self c.in-Some.key c.in-Some-next.other c.in-Some.ensures.steps c.in-Some-next.ensures.steps
      c.later-places.ensures c.loop-key.invariant.same;
}
