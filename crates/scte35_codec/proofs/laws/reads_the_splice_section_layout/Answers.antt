use Rattle.std.proofs.Common.{rules}
use Rattle.scte35_codec.proofs.Whole.{reading_is, is_read}
use Rattle.scte35_codec.proofs.laws.reads_the_splice_section_layout.Goals as goal

pub returns : goal.returns
returns c = search (rules, reading_is, is_read)
