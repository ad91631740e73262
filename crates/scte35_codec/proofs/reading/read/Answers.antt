use Rattle.std.proofs.Common.{subst, arith}
use Rattle.std.proofs.lemmas.Grind.{common_steps}
use Rattle.scte35_codec.specs.Section.{section_of}
use Rattle.scte35_codec.specs.Reading.{GivesOrSpliceFault}
use Rattle.scte35_codec.proofs.Faults.{read_faults}
use Rattle.scte35_codec.proofs.Whole.{is_found, is_read}
use Rattle.scte35_codec.proofs.reading.read.Goals as goal

pub returns-clause-found : goal.returns-clause-found
returns-clause-found c = grind (arith, common_steps, is_found)

pub returns-clause-only : goal.returns-clause-only
returns-clause-only c = λ s is. subst (λ r. GivesOrSpliceFault section_of c.splice_section_of_bytes.result r) (is_read c.args.bytes.now s (λ i. omega (arith, c.type_inv.bytes i)) is) c.splice_section_of_bytes.ensures.exact

pub returns-clause-fault : goal.returns-clause-fault
returns-clause-fault c = grind (arith, common_steps, read_faults)
