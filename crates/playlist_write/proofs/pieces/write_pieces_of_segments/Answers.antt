use Rattle.std.proofs.Common.{◌≡◌, ◌++◌, arith, string_bytes}
use Rattle.std.proofs.lemmas.Grind.{common_steps}
use Rattle.playlist_write.specs.Owed.{said_text, segments_owed, after_segment}
use Rattle.playlist_write.proofs.CommonKeys.{none_known, second_after_first}
use Rattle.playlist_write.proofs.OnlyKey.{none_is_only, only_key_after}
use Rattle.playlist_write.proofs.Taken.{taken_of_held, front_of_held, front_taken, on_err}
use Rattle.playlist_write.proofs.pieces.write_pieces_of_segments.Goals as goal

pub returns-in_err-hand_out_written_piece-clause-err : goal.returns-in_err-hand_out_written_piece-clause-err
returns-in_err-hand_out_written_piece-clause-err g c =
    let later = said_text (segments_owed (after_segment c.loop-next.force c.in-Some.next) c.next.new.self) in
    let held : string_bytes c.loop-next.held ++ said_text (segments_owed c.loop-next.force c.loop-next.segments) ≡ string_bytes c.write_next_segment_lines.new.out ++ later =
    grind (arith, common_steps) in
    on_err c.from_residual-in_err-hand_out_written_piece.result _ (front_of_held _ _ _ _ _ (string_bytes c.write_next_segment_lines.new.out) later c.loop-next.invariant.taken held c.in_err-hand_out_written_piece.ensures.err)

pub loop-next-preserved : goal.loop-next-preserved
loop-next-preserved g c =
    let later = said_text (segments_owed c.in_ok-force.force c.next.new.self) in
    let held : string_bytes c.loop-next.held ++ said_text (segments_owed c.loop-next.force c.loop-next.segments) ≡ string_bytes c.write_next_segment_lines.new.out ++ later =
    grind (arith, common_steps) in
    record {
      taken = taken_of_held _ _ _ _ _ (string_bytes c.write_next_segment_lines.new.out) later _ c.loop-next.invariant.taken held c.in_ok-hand_out_written_piece.ensures.ok;
      failed = grind arith;
      first = second_after_first c.loop-next.later c.loop-next.force c.in_ok-force.force c.in-Some.next c.loop-next.segments c.next.new.self c.in-Some.ensures c.in_ok-force.ensures.force c.loop-next.invariant.second;
      key = only_key_after c.write_next_segment_lines.new.key c.loop-next.force c.in_ok-force.force c.in-Some.next c.in_ok-force.ensures.force c.in_ok-force.ensures.key;
      second = c.in_common_after_next-later-in-Some.ensures;
    }

pub returns-in_err-force-clause-err : goal.returns-in_err-force-clause-err
returns-in_err-force-clause-err g c = grind (arith, common_steps, on_err, front_taken)

pub loop-next-init : goal.loop-next-init
loop-next-init g c = record {
  taken = grind arith;
  failed = grind arith;
  first = none_known c.nothing-common.result c.args.before c.args.segments c.nothing-common.ensures.common;
  key = none_is_only c.new-key.result c.args.before.keys c.new-key.ensures;
  second = c.in_common_after_next-later.ensures;
}
