use Rattle.std.proofs.Common.{arith}
use Rattle.std.proofs.lemmas.Grind.{common_steps}
use Rattle.scte35_codec.proofs.Appends.{counted_appends}
use Rattle.scte35_codec.proofs.writing.put_splice_target.Goals as goal

pub returns-in_ok-put_splice_u8-in-Components : goal.returns-in_ok-put_splice_u8-in-Components
returns-in_ok-put_splice_u8-in-Components c = grind (arith, common_steps, counted_appends)
