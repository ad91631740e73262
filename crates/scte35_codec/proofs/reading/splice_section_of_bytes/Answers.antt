use Rattle.std.proofs.Common.{arith}
use Rattle.std.proofs.lemmas.Grind.{common_steps}
use Rattle.scte35_codec.specs.Reading.{reading}
use Rattle.scte35_codec.proofs.Faults.{contents_fail}
use Rattle.scte35_codec.proofs.reading.splice_section_of_bytes.Goals as goal

pub returns-clause-told : goal.returns-clause-told
unfolding reading
returns-clause-told c = grind (arith, common_steps, contents_fail)
