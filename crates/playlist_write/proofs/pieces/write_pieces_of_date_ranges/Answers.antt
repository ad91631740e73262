use Rattle.std.proofs.Common.{◌≡◌, ◌+◌, ◌++◌, drop, arith, string_bytes}
use Rattle.std.proofs.lemmas.Grind.{common_steps}
use Rattle.playlist_write.specs.Owed.{date_ranges_text}
use Rattle.playlist_write.proofs.Taken.{taken_of_held, front_of_held, front_taken, on_err}
use Rattle.playlist_write.proofs.pieces.write_pieces_of_date_ranges.Goals as goal

pub returns-in_err-hand_out_written_piece-clause-err : goal.returns-in_err-hand_out_written_piece-clause-err
returns-in_err-hand_out_written_piece-clause-err g c =
    let later = date_ranges_text (drop (c.loop-date_range.date_range-index + 1) c.args.date_ranges.now) in
    let held : string_bytes c.loop-date_range.held ++ date_ranges_text (drop c.loop-date_range.date_range-index c.args.date_ranges.now) ≡ string_bytes c.write_date_range_line.new.out ++ later =
    grind (arith, common_steps) in
    grind (arith, common_steps, on_err, front_of_held)

pub loop-date_range-preserved : goal.loop-date_range-preserved
loop-date_range-preserved g c =
    let later = date_ranges_text (drop (c.loop-date_range.date_range-index + 1) c.args.date_ranges.now) in
    let held : string_bytes c.loop-date_range.held ++ date_ranges_text (drop c.loop-date_range.date_range-index c.args.date_ranges.now) ≡ string_bytes c.write_date_range_line.new.out ++ later =
    grind (arith, common_steps) in
    grind (arith, common_steps, taken_of_held)

pub returns-in_err-write_date_range_line-clause-err : goal.returns-in_err-write_date_range_line-clause-err
returns-in_err-write_date_range_line-clause-err g c = grind (arith, common_steps, on_err, front_taken)
