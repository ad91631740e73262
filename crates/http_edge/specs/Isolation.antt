-- What the requests on one channel are answered, whatever the others are.
use Rattle.std.specs.Prelude.{◌≡◌, ℕ, ◌==◌, ◌&&◌, Bool, true, false, not, List, [], ◌∷◌, bytes_eq, filter, map, Option, Some, None, if◌then◌else◌}
use Rattle.std.specs.List.{list_all}
use Rattle.http_messages.specs.declared.message.Request.{Request}
use Rattle.http_messages.specs.declared.message.Reply.{Reply}
use Rattle.channel_api.specs.declared.routes.Resource.{Resource}
use Rattle.channel_api.specs.Routes.{is_channel_name, route_path_of, path_to, route_of}
use Rattle.http_edge.specs.Table.{Table, reply_to, turn, turn_at}
use Rattle.http_edge.specs.Edges.{NamedChannel, RepresentsRequests, AnswersRequest}

abbrev pub is_route_of : List ℕ → Option (List ℕ × Resource) → Bool
is_route_of name None = false
is_route_of name (Some route) = bytes_eq name route.0

-- a request on the channel of this name
abbrev pub is_on : List ℕ → Request → Bool
is_on name r = is_route_of name (route_of (route_path_of r.target))

-- the replies to the requests on a channel, the newest first
abbrev pub replies_on : List ℕ → List Request → List Reply
replies_on name [] = []
replies_on name (r ∷ before) = if is_on name r then reply_to before r ∷ replies_on name before else replies_on name before

abbrev pub was_served : Reply → Bool
was_served reply = not (reply.status == 503)

-- if none of them is 503, they are what these requests alone are answered
abbrev pub IsIsolated : List ℕ → List Request → Type 0
IsIsolated name requests =
    list_all was_served (replies_on name requests) ≡ true → replies_on name requests ≡ replies_on name (filter (is_on name) requests)

-- ---- runs

-- a request, and what it was answered
pub record Exchange : Type 0 where
  pub request : Request
  pub reply : Reply

-- an edge came from what it was first to what it is by these exchanges, the newest first
abbrev pub ExchangesLeadTo : List NamedChannel → List Exchange → List NamedChannel → Type 0
ExchangesLeadTo first [] last = last ≡ first
ExchangesLeadTo first (e ∷ before) last = (middle : List NamedChannel) × ExchangesLeadTo first before middle × AnswersRequest middle e.request e.reply last

-- on the channel of this name, and not answered 503
abbrev pub is_served_on : List ℕ → Exchange → Bool
is_served_on name e = is_on name e.request && was_served e.reply

abbrev pub asked_of : List Exchange → List Request
asked_of exchanges = map (λ (e : Exchange). e.request) exchanges

abbrev pub answered_of : List Exchange → List Reply
answered_of exchanges = map (λ (e : Exchange). e.reply) exchanges

-- what a channel's requests were answered is what they alone are owed, those that were answered 503 left out
abbrev pub IsIsolatedIn : List ℕ → List Exchange → Type 0
IsIsolatedIn name run =
    answered_of (filter (is_served_on name) run) ≡ replies_on name (asked_of (filter (is_served_on name) run))

-- whatever else was asked, of an edge that stood for no request
abbrev pub RunsAreIsolated : Type 0
RunsAreIsolated = (name : List ℕ) (first last : List NamedChannel) (run : List Exchange) → RepresentsRequests first [] → ExchangesLeadTo first run last → IsIsolatedIn name run

-- ---- paths

-- a request whose path is one of a channel's name is on this channel
abbrev pub PathsAreOnTheirChannels : Type 0
PathsAreOnTheirChannels = (r : Request) (name : List ℕ) (resource : Resource) → is_channel_name name ≡ true → route_path_of r.target ≡ path_to name resource
    → is_on name r ≡ true

-- and does what a request does for what it names of this channel
abbrev pub PathsLeadToTheirChannels : Type 0
PathsLeadToTheirChannels = (table : Table) (r : Request) (name : List ℕ) (resource : Resource) → is_channel_name name ≡ true
    → route_path_of r.target ≡ path_to name resource → turn table r ≡ turn_at table r name resource
