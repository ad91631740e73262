use Rattle.std.proofs.Common.{arith, refl}
use Rattle.std.proofs.lemmas.Grind.{common_steps}
use Rattle.playlist_write.proofs.CommonKeys.{none_known, second_after_first}
use Rattle.playlist_write.proofs.OnlyKey.{none_is_only, only_key_after}
use Rattle.playlist_write.proofs.resumed.write_all_segment_lines.Goals as goal

pub loop-next-init : goal.loop-next-init
loop-next-init c = record {
  text = refl;
  force = refl;
  first = none_known c.nothing-common.result c.args.before c.args.segments c.nothing-common.ensures.common;
  key = none_is_only c.new-key.result c.args.before.keys c.new-key.ensures;
  second = c.in_common_after_next-later.ensures;
}

pub loop-next-preserved : goal.loop-next-preserved
loop-next-preserved c = record {
  text = grind (arith, common_steps);
  force = grind (arith, common_steps);
  first = second_after_first c.loop-next.later c.loop-next.force c.in_ok-force.force c.in-Some.next c.loop-next.segments c.next.new.self c.in-Some.ensures c.in_ok-force.ensures.force c.loop-next.invariant.second;
  key = only_key_after c.write_next_segment_lines.new.key c.loop-next.force c.in_ok-force.force c.in-Some.next c.in_ok-force.ensures.force c.in_ok-force.ensures.key;
  second = c.in_common_after_next-later-in-Some.ensures;
}
