use Rattle.std.proofs.Common.{arith}
use Rattle.scte35_codec.specs.Section.{section_of}
use Rattle.scte35_codec.specs.Writing.{command_length}
use Rattle.scte35_codec.proofs.Lengths.{section_length_is}
use Rattle.scte35_codec.proofs.limits.splice_section_length.Goals as goal

pub returns : goal.returns
returns c =
    let s = section_of c.args.info.now in
    let is = section_length_is s (command_length s) c.length_of_splice_command.result c.length_of_splice_command.ensures in
    omega (arith, is)
