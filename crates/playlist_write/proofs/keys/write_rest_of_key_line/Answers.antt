use Rattle.std.proofs.Common.{arith}
use Rattle.std.proofs.lemmas.Grind.{common_steps}
use Rattle.date_times.proofs.Chains.{grown4}
use Rattle.playlist_write.proofs.keys.write_rest_of_key_line.Goals as goal

pub returns : goal.returns
returns c = grind (arith, common_steps, grown4)
