use Rattle.std.proofs.Common.{arith, sym, ◌∙◌}
use Rattle.std.proofs.lemmas.Grind.{common_steps}
use Rattle.playlist_write.proofs.CommonKeys.{first_known, same_after_first}
use Rattle.playlist_write.proofs.keys.write_new_key_lines.Goals as goal

pub passes_same_written_key-requires : goal.passes_same_written_key-requires
passes_same_written_key-requires c = λ is. first_known c.loop-key.places c.loop-key.others c.loop-key.key-iterator c.next.new.self c.in-Some.key c.in-Some.ensures.steps c.loop-key.invariant.same (sym c.holds_first-is_common.ensures ∙ is)

pub loop-key-preserved : goal.loop-key-preserved
loop-key-preserved c = record {
  text = grind (arith, common_steps);
  among = grind (arith, common_steps);
  same = same_after_first c.loop-key.places c.later-places.result c.loop-key.others _ c.loop-key.key-iterator c.next.new.self c.in-Some.key c.passes_same_written_key.ensures.left c.in-Some.ensures.steps c.later-places.ensures c.loop-key.invariant.same;
}
