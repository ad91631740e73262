use Rattle.std.proofs.Common.{subst, sym, arith}
use Rattle.std.proofs.lemmas.Grind.{common_steps}
use Rattle.http_edge.specs.Edges.{AreGiven}
use Rattle.http_edge.proofs.Turns.{unmoved_turn, live_turn, none_at}
use Rattle.http_edge.proofs.channels.Channels.live.Goals as goal

pub returns-in_default : goal.returns-in_default
returns-in_default c table s = grind (arith, common_steps, none_at, unmoved_turn)

pub returns : goal.returns
returns c table s =
    let seen = subst (λ k. AreGiven k table) (sym c.self.view_is) s in
    live_turn c.self.inside.by_name.entries table c.args.name.now c.in-Some.channel.now c.live_playlist_of_edge.result _ seen c.in-Some.ensures.value c.live_playlist_of_edge.ensures s
