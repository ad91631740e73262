-- The paths of a channel's name are its own.
use Rattle.std.proofs.Common.{◌≡◌, ℕ, true, List, ap, ◌∙◌, arith}
use Rattle.std.proofs.lemmas.Slice.Eq.{bytes_eq-Decides}
use Rattle.http_messages.specs.declared.message.Request.{Request}
use Rattle.channel_api.specs.declared.routes.Resource.{Resource}
use Rattle.channel_api.specs.Routes.{is_channel_name, route_path_of, path_to, route_of}
use Rattle.channel_api.proofs.NamedPaths.{each}
use Rattle.http_edge.specs.Table.{Table, routed, turn, turn_at}
use Rattle.http_edge.specs.Isolation.{is_on}

pub on_its_channel : (r : Request) (name : List ℕ) (resource : Resource) → is_channel_name name ≡ true → route_path_of r.target ≡ path_to name resource → is_on name r ≡ true
on_its_channel r name resource h p = grind (arith, bytes_eq-Decides, each)

pub leads_to_its_channel : (table : Table) (r : Request) (name : List ℕ) (resource : Resource) → is_channel_name name ≡ true
    → route_path_of r.target ≡ path_to name resource → turn table r ≡ turn_at table r name resource
leads_to_its_channel table r name resource h p = ap (λ path. routed table r (route_of path)) p ∙ ap (routed table r) (each name resource h)
