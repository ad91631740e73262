use Rattle.std.proofs.Common.{◌≡◌, ap, arith}
use Rattle.scte35_codec.specs.Section.{after_length, splice_section_fields, start_fields, heading_fields, section_of}
use Rattle.scte35_codec.specs.Writing.{command_length}
use Rattle.scte35_codec.proofs.Fits.{kept}
use Rattle.scte35_codec.proofs.Lengths.{section_length_is}
use Rattle.scte35_codec.proofs.Appends.{Appends-then, Appends-is}
use Rattle.scte35_codec.proofs.writing.put_section_front.Goals as goal

pub put_section_start-requires : goal.put_section_start-requires
put_section_start-requires c = omega (arith, (kept (section_of c.args.info.now) c.requires.fits).length)

pub length_of_splice_command-requires : goal.length_of_splice_command-requires
length_of_splice_command-requires c = (kept (section_of c.args.info.now) c.requires.fits).command

pub put_splice_command-requires : goal.put_splice_command-requires
put_splice_command-requires c = (kept (section_of c.args.info.now) c.requires.fits).command

pub put_section_heading-requires-clause-command : goal.put_section_heading-requires-clause-command
put_section_heading-requires-clause-command c =
    let s = section_of c.args.info.now in
    omega (arith, (kept s c.requires.fits).length, section_length_is s (command_length s) c.length_of_splice_command.result c.length_of_splice_command.ensures)

pub put_section_tail-requires : goal.put_section_tail-requires
put_section_tail-requires c =
    let s = section_of c.args.info.now in
    omega (arith, (kept s c.requires.fits).length, section_length_is s (command_length s) c.length_of_splice_command.result c.length_of_splice_command.ensures)

pub returns : goal.returns
unfolding splice_section_fields after_length
returns c =
    let s = section_of c.args.info.now in
    let len : c.length_of_splice_command.result ≡ command_length s = omega (arith, c.length_of_splice_command.ensures) in
    let start = Appends-is (ap start_fields c.requires.counted) c.in_ok-put_section_start.ensures in
    let heading = Appends-is (ap (heading_fields s) len) c.in_ok-put_section_heading.ensures in
    Appends-then start (Appends-then (Appends-then heading c.in_ok-put_splice_command.ensures) c.in_ok-put_section_tail.ensures)
