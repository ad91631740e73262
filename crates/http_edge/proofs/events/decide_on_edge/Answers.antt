use Rattle.std.proofs.Common.{rules}
use Rattle.std.specs.Prelude.{◌≢◌}
use Rattle.pod_store.specs.Outcome.{no_memory}
use Rattle.http_edge.proofs.Given.{decisions_refused}
use Rattle.http_edge.proofs.events.decide_on_edge.Goals as goal

pub returns-else-eq : goal.returns-else-eq
returns-else-eq c given h =
    let other : c.in-Err.fault ≢ no_memory = search rules in
    decisions_refused c.args.channel.now c.decide.new.self c.args.body.now given h c.in-Err.fault c.refused_decisions.result other c.in-Err.ensures.changes (c.in-Err.ensures.stands given.events h.stands) c.refused_decisions.ensures
