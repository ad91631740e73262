use Rattle.std.proofs.Common.{subst, ap, ◌∙◌, arith}
use Rattle.std.proofs.lemmas.Grind.{common_steps}
use Rattle.channel_api.specs.Routes.{route_path_of, route_of}
use Rattle.http_edge.specs.Table.{routed}
use Rattle.http_edge.specs.Edges.{TakenTurn}
use Rattle.http_edge.proofs.Turns.{stands_for_some}
use Rattle.http_edge.proofs.edge.Edge.answer_request.Goals as goal

pub invariant_of-self : goal.invariant_of-self
invariant_of-self c =
    let route = c.in-Some.ensures ∙ ap (λ t. route_of (route_path_of t)) c.as_str.ensures.text in
    stands_for_some c.on_resource.result c.args.request.now c.self.inside.channels c.on_resource.new.self c.self.invariant
    (λ table s. subst (λ o. TakenTurn (routed table c.args.request.now o) table c.on_resource.result c.on_resource.new.self) route (c.on_resource.ensures table s))

pub returns : goal.returns
returns c table s = grind (arith, common_steps)
