use Rattle.std.proofs.Common.{arith}
use Rattle.std.proofs.lemmas.List.{take_rest}
use Rattle.std.proofs.lemmas.Grind.{common_steps}
use Rattle.stitcher.proofs.Cuts.{from_fits, from_drops}
use Rattle.stitcher.proofs.stitched_list.items_at_stretch_place.Goals as goal

pub items_of_stretches-items-requires : goal.items_of_stretches-items-requires
items_of_stretches-items-requires c = grind (arith, common_steps, take_rest, from_fits)

pub returns : goal.returns
returns c = grind (arith, common_steps, take_rest, from_drops)
