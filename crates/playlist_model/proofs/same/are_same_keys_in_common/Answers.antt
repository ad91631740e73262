use Rattle.std.proofs.Common.{arith, sym, ◌∙◌}
use Rattle.std.proofs.lemmas.Grind.{common_steps}
use Rattle.playlist_model.proofs.SameInCommon.{first_of_walk, later_of_walk}
use Rattle.playlist_model.proofs.same.are_same_keys_in_common.Goals as goal

pub is_same_key_in_common-requires : goal.is_same_key_in_common-requires
is_same_key_in_common-requires c =
    λ is. first_of_walk c.loop-key.places c.loop-key.key-iterator c.loop-key.others c.next.new.self c.next-in-loop-key.new.self c.in-Some.key c.in-Some-next.other c.in-Some.ensures.steps c.in-Some-next.ensures.steps c.loop-key.invariant.1
    (sym c.holds_first.ensures ∙ is)

pub loop-key-preserved : goal.loop-key-preserved
loop-key-preserved c = (
  grind (arith, common_steps),
  later_of_walk c.loop-key.places c.later-places.result c.loop-key.key-iterator c.loop-key.others c.next.new.self c.next-in-loop-key.new.self c.in-Some.key c.in-Some-next.other c.in-Some.ensures.steps c.in-Some-next.ensures.steps
      c.later-places.ensures c.loop-key.invariant.1,
)
