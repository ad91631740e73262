use Rattle.scte35_codec.proofs.Whole.{has_one}
use Rattle.scte35_codec.proofs.laws.refuses_what_has_no_splice_section.Goals as goal

pub returns : goal.returns
returns c = has_one
