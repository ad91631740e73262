-- Whose turn a request takes, of those that wait for one.
use Rattle.std.specs.Prelude.{ℕ, Bool, ◌&&◌, min, position, bytes_eq, List, Option, Some, None, unwrap_or, if◌then◌else◌}
use Rattle.channel_api.specs.declared.routes.Resource.{Resource}
use Rattle.channel_api.specs.Routes.{route_path_of, route_of}
use Rattle.http_edge.specs.Edges.{NamedChannel}
use Rattle.http_edge.specs.Table.{is_to_live}

-- the number of the requests that are of no channel: the channels' are smaller
abbrev pub no_channel : ℕ
no_channel = 64

-- the number of the channel of this name: from 0, in the order in which the channels were made
abbrev pub channel_number : List NamedChannel → List ℕ → ℕ
channel_number kept name = min (unwrap_or (position (λ (one : NamedChannel). bytes_eq name one.name) kept) no_channel) no_channel

abbrev pub number_of_route : List NamedChannel → Option (List ℕ × Resource) → ℕ
number_of_route kept None = no_channel
number_of_route kept (Some route) = channel_number kept route.0

-- the number of the channel that a request of this target is of
abbrev pub number_of_target : List NamedChannel → List ℕ → ℕ
number_of_target kept target = number_of_route kept (route_of (route_path_of target))

-- whose turn it takes; none, if it reads the playlist that a channel wrote last
abbrev pub turn_of : List NamedChannel → Bool → List ℕ → Option ℕ
turn_of kept gets target = if gets && is_to_live (route_of (route_path_of target)) then None else Some (number_of_target kept target)
