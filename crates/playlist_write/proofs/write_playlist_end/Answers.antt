use Rattle.std.proofs.Common.{arith}
use Rattle.std.proofs.lemmas.Grind.{common_steps}
use Rattle.playlist_write.proofs.Taken.{none_taken, front_taken, on_err}
use Rattle.playlist_write.proofs.write_playlist_end.Goals as goal

pub returns-in_err-write_end_line-clause-err : goal.returns-in_err-write_end_line-clause-err
returns-in_err-write_end_line-clause-err g c = grind (arith, common_steps, on_err, front_taken, none_taken)
