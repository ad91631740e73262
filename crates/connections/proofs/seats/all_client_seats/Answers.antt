use Rattle.connections.specs.Limits.{place_count}
use Rattle.connections.proofs.Seated.{one_more, all_there}
use Rattle.connections.proofs.seats.all_client_seats.Goals as goal

pub loop-index-preserved : goal.loop-index-preserved
loop-index-preserved g c =
    one_more place_count c.loop-index.index _ c.push.new.self.items _ c.loop-index-test.true c.in_ok-push.ensures.items c.loop-index.invariant

pub returns : goal.returns
returns g c = all_there place_count c.loop-index.index _ _ c.loop-index-test.false c.loop-index.invariant
