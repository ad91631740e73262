-- What is seen of a whole request.
use Rattle.std.proofs.Common.{◌≡◌, ℕ, Bool, true, false, ◌&&◌, List, refl, sym, ◌∙◌, arith}
use Rattle.std.specs.Prelude.{Option, Some, None, if◌then◌else◌}
use Rattle.http_messages.specs.Arriving.{AsksFor}
use Rattle.http_messages.specs.declared.receiving.Asked.TheVariants as asked
use Rattle.channel_api.specs.Routes.{route_path_of, route_of}
use Rattle.http_edge.specs.Edges.{NamedChannel}
use Rattle.http_edge.specs.Table.{is_to_live}
use Rattle.http_edge.specs.Waiting.{turn_of}
use Rattle.connections.specs.Inner.Outlooks.{IsOutlook, outlook_of_request}

takes_none : (b : Bool) (n : ℕ) → (if b then None else Some n) ≡ None → b ≡ true
takes_none true n e = refl
takes_none false n e = absurd (grind arith)

pub by_turn : (edge : List NamedChannel) (bytes : List ℕ) (gets : Bool) (target : List ℕ) (o : Option ℕ) → AsksFor bytes gets target → turn_of edge gets target ≡ o
    → IsOutlook edge bytes (outlook_of_request o)
by_turn edge bytes gets target None a e = record {
  request = a.request;
  asks = a.asks;
  reads = sym (λ i. a.method i && is_to_live (route_of (route_path_of (a.target_is i)))) ∙ takes_none _ _ e;
}
by_turn edge bytes gets target (Some channel) a e = record {
  asked = asked.Request a.request;
  asks = a.asks;
  takes = sym (λ i. turn_of edge (a.method i) (a.target_is i)) ∙ e;
}
