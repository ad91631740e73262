use Rattle.std.proofs.Common.{arith}
use Rattle.std.proofs.lemmas.Grind.{common_steps}
use Rattle.scte35_codec.proofs.Appends.{on_added, bytes_append}
use Rattle.scte35_codec.proofs.writing.put_splice_bytes.Goals as goal

pub returns : goal.returns
returns c = grind (arith, common_steps, on_added, bytes_append)
