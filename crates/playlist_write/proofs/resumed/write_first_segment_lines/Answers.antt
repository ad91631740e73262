use Rattle.std.proofs.Common.{arith, refl}
use Rattle.std.proofs.lemmas.Grind.{common_steps}
use Rattle.playlist_write.proofs.CommonKeys.{none_known, second_after_first}
use Rattle.playlist_write.proofs.OnlyKey.{none_is_only, only_key_after}
use Rattle.playlist_write.proofs.GoesOn.{text_goes, force_goes}
use Rattle.playlist_write.proofs.resumed.write_first_segment_lines.Goals as goal

pub loop-left-init : goal.loop-left-init
loop-left-init c = record {
  text = refl;
  force = refl;
  first = none_known c.nothing-common.result c.args.before c.args.segments c.nothing-common.ensures.common;
  key = none_is_only c.new-key.result c.args.before.keys c.new-key.ensures;
}

pub loop-left-preserved : goal.loop-left-preserved
loop-left-preserved c = record {
  text = grind (arith, common_steps, text_goes, force_goes);
  force = grind (arith, common_steps, text_goes, force_goes);
  first = second_after_first c.in_common_after_next-later.result c.loop-left.force c.in_ok-force.force c.in-Some.next c.loop-left.segments c.next.new.self c.in-Some.ensures c.in_ok-force.ensures.force c.in_common_after_next-later.ensures;
  key = only_key_after c.write_next_segment_lines.new.key c.loop-left.force c.in_ok-force.force c.in-Some.next c.in_ok-force.ensures.force c.in_ok-force.ensures.key;
}
