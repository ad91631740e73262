use Rattle.std.proofs.Common.{arith}
use Rattle.std.proofs.lemmas.Grind.{common_steps}
use Rattle.channel_window.proofs.Listed.{after_at, rest_after, tail_at, tail_whole}
use Rattle.channel_window.proofs.listing.window_segments_after.Goals as goal

pub returns-then-number-first : goal.returns-then-number-first
returns-then-number-first c = grind (arith, common_steps, rest_after, tail_whole)

pub returns : goal.returns
returns c = grind (arith, common_steps, after_at, tail_at)
