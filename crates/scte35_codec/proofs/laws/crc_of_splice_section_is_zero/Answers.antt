use Rattle.scte35_codec.proofs.Registers.{crc_is_zero}
use Rattle.scte35_codec.proofs.laws.crc_of_splice_section_is_zero.Goals as goal

pub returns : goal.returns
returns c = crc_is_zero
