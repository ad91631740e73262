use Rattle.std.proofs.Common.{drop, arith}
use Rattle.std.proofs.lemmas.Grind.{common_steps}
use Rattle.stitcher.specs.StitchedSegments.{KnowPrevious}
use Rattle.stitcher.proofs.Known.{known_previous_later}
use Rattle.live_channel.proofs.Accepting.{decided_later}
use Rattle.live_channel.proofs.next.next_live_state_of.Goals as goal

pub returns-clause-ok : goal.returns-clause-ok
returns-clause-ok c =
    let previous : KnowPrevious (drop c.place_of_number.result c.args.list.now) = known_previous_later _ _ c.requires.previous in
    grind (arith, common_steps, decided_later, previous)
