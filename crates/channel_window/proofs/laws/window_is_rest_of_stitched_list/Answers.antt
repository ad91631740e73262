use Rattle.std.proofs.Common.{arith}
use Rattle.std.proofs.lemmas.Grind.{common_steps}
use Rattle.channel_window.proofs.Rest.{window_is_stitched, number_range_is_stitched}
use Rattle.channel_window.proofs.laws.window_is_rest_of_stitched_list.Goals as goal

pub returns : goal.returns
returns c = grind (arith, common_steps, window_is_stitched, number_range_is_stitched)
