use Rattle.scte35_codec.proofs.Whole.{one_value}
use Rattle.scte35_codec.proofs.laws.splice_section_has_one_value.Goals as goal

pub returns : goal.returns
returns c = one_value
