use Rattle.std.proofs.Common.{◌≡◌, true, sym, arith}
use Rattle.std.proofs.lemmas.Grind.{common_steps}
use Rattle.scte35_codec.specs.Section.{section_of}
use Rattle.scte35_codec.specs.Writing.{has_splice_section}
use Rattle.scte35_codec.proofs.Fits.{kept}
use Rattle.scte35_codec.proofs.writing.front_of_splice_section.Goals as goal

pub splice_section_length-section_length-requires : goal.splice_section_length-section_length-requires
splice_section_length-section_length-requires c =
    let fit : has_splice_section (section_of c.args.info.now) ≡ true = sym c.if-not-has_splice_section.ensures in
    (kept _ fit).command

pub overflow_add-section_length : goal.overflow_add-section_length
overflow_add-section_length c =
    let fit : has_splice_section (section_of c.args.info.now) ≡ true = sym c.if-not-has_splice_section.ensures in
    omega (arith, (kept _ fit).length)

pub returns-clause-front : goal.returns-clause-front
returns-clause-front c = grind (arith, common_steps)
