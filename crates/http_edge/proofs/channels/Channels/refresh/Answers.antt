use Rattle.std.proofs.Common.{subst, sym, arith}
use Rattle.std.proofs.lemmas.Grind.{common_steps}
use Rattle.live_channel.specs.Channel.{refreshed}
use Rattle.http_edge.specs.Replies.{refresh_owed}
use Rattle.http_edge.specs.Edges.{AreGiven}
use Rattle.http_edge.proofs.Turns.{unmoved_turn, event_done, none_at}
use Rattle.http_edge.proofs.channels.Channels.refresh.Goals as goal

pub returns-in_default : goal.returns-in_default
returns-in_default c table s = grind (arith, common_steps, none_at, unmoved_turn)

pub returns : goal.returns
returns c table s =
    let seen = subst (λ k. AreGiven k table) (sym c.self.view_is) s in
    event_done c.self.inside.by_name.entries _ table c.args.name.now (refreshed c.args.body.now) (refresh_owed c.args.body.now) c.in-Some.channel.now c.refresh_on_edge.new.channel
    c.refresh_on_edge.result seen c.in-Some.ensures.value (c.get_mut.follows.holds c.refresh_on_edge.new.channel).0 c.refresh_on_edge.ensures
