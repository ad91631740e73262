use Rattle.std.proofs.Common.{arith}
use Rattle.std.proofs.lemmas.Grind.{common_steps}
use Rattle.scte35_codec.proofs.Lengths.{components_width}
use Rattle.scte35_codec.proofs.limits.splice_components_length.Goals as goal

pub loop-component-preserved : goal.loop-component-preserved
loop-component-preserved c = grind (arith, common_steps, components_width)
