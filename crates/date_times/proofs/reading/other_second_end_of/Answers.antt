use Rattle.std.proofs.Common.{arith}
use Rattle.std.proofs.lemmas.Grind.{common_steps}
use Rattle.date_times.proofs.TimeForms.{fraction_digits}
use Rattle.date_times.proofs.reading.other_second_end_of.Goals as goal

pub nanos_of_fraction-nanos-requires : goal.nanos_of_fraction-nanos-requires
nanos_of_fraction-nanos-requires c = grind (arith, common_steps, fraction_digits)
