use Rattle.std.proofs.Common.{arith}
use Rattle.std.proofs.lemmas.Grind.{common_steps}
use Rattle.date_times.proofs.Chains.{grown2, as_text}
use Rattle.playlist_write.proofs.TagLines.{key_pieces}
use Rattle.playlist_write.proofs.keys.write_key_line.Goals as goal

pub returns : goal.returns
returns c = grind (arith, common_steps, as_text, grown2, key_pieces)
