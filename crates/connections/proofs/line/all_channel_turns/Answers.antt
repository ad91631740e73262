use Rattle.connections.specs.Lines.{turn_count}
use Rattle.connections.proofs.Seated.{one_more, all_there}
use Rattle.connections.proofs.line.all_channel_turns.Goals as goal

pub loop-index-preserved : goal.loop-index-preserved
loop-index-preserved c =
    one_more turn_count c.loop-index.index _ c.push.new.self.items _ c.loop-index-test.true c.in_ok-push.ensures.items c.loop-index.invariant

pub returns : goal.returns
returns c = all_there turn_count c.loop-index.index _ _ c.loop-index-test.false c.loop-index.invariant
