use Rattle.std.proofs.Common.{arith}
use Rattle.std.proofs.lemmas.Grind.{common_steps}
use Rattle.scte35_codec.proofs.Appends.{on_added, last_bytes}
use Rattle.scte35_codec.proofs.writing.put_splice_number.Goals as goal

pub returns : goal.returns
returns c = grind (arith, common_steps, last_bytes, on_added)
