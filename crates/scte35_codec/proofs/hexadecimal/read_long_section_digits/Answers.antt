use Rattle.std.proofs.Common.{arith}
use Rattle.std.proofs.lemmas.Grind.{common_steps}
use Rattle.scte35_codec.proofs.Hexadecimals.{pairs_in_front, decoded_says}
use Rattle.scte35_codec.proofs.hexadecimal.read_long_section_digits.Goals as goal

pub decode_section_digits-requires-clause-pairs : goal.decode_section_digits-requires-clause-pairs
decode_section_digits-requires-clause-pairs c = grind (arith, common_steps, pairs_in_front)

pub returns : goal.returns
returns c = grind (arith, common_steps, decoded_says)
