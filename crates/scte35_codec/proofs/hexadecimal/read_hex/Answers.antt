use Rattle.std.proofs.Common.{subst, arith}
use Rattle.std.proofs.lemmas.Grind.{common_steps}
use Rattle.scte35_codec.specs.Section.{section_of}
use Rattle.scte35_codec.specs.Reading.{GivesOrSpliceFault}
use Rattle.scte35_codec.proofs.Faults.{hex_fault_is, hex_faults, not_hex_is}
use Rattle.scte35_codec.proofs.Hexadecimals.{hex_found, hex_again}
use Rattle.scte35_codec.proofs.hexadecimal.read_hex.Goals as goal

pub returns-clause-found : goal.returns-clause-found
returns-clause-found c = grind (arith, common_steps, hex_found)

pub returns-clause-only : goal.returns-clause-only
returns-clause-only c = λ bytes s e is. subst (λ r. GivesOrSpliceFault section_of c.splice_section_of_text.result r) (hex_again c.args.text.now bytes s e is) c.splice_section_of_text.ensures.exact

pub returns-clause-not_hex : goal.returns-clause-not_hex
returns-clause-not_hex c = grind (arith, common_steps, hex_fault_is, not_hex_is)

pub returns-clause-fault : goal.returns-clause-fault
returns-clause-fault c = grind (arith, common_steps, hex_faults)
