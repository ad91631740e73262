-- The channels, and what is owed for a request.
use Rattle.std.specs.Prelude.{ℕ, Bool, true, false, ◌&&◌, nat_le, nat_lt, List, [], ◌∷◌, ◌++◌, codes, length, bytes_eq, Option, Some, None, is_some, Result, Ok, Err, if◌then◌else◌}
use Rattle.url.specs.Parts.{Parts}
use Rattle.playlist_model.specs.Uri.{base_of}
use Rattle.channel_spec.specs.Limits.{max_tolerance}
use Rattle.live_channel.specs.Channel.{decided, refreshed}
use Rattle.live_channel.specs.Channel as channel
use Rattle.http_messages.specs.declared.message.Request.{Request}
use Rattle.http_messages.specs.declared.message.Reply.{Reply}
use Rattle.http_messages.specs.declared.message.Allow.TheVariants as allow
use Rattle.http_messages.specs.Replies.{bare}
use Rattle.channel_api.specs.declared.channel_body.BodyFault.{BodyFault}
use Rattle.channel_api.specs.declared.routes.Resource.{Resource}
use Rattle.channel_api.specs.declared.routes.Resource.TheVariants.{Channel, Origin, Decisions, Live, Why}
use Rattle.http_edge.specs.Channels.{GivenChannel, with_event}
use Rattle.channel_api.specs.ChannelBody.{body_said}
use Rattle.channel_api.specs.Replies.{not_found, not_allowed, body_fault_reply, bad_base, bad_tolerance, exists}
use Rattle.http_edge.specs.Replies.{refresh_owed, decisions_owed, live_owed, why_owed}
use Rattle.channel_api.specs.Routes.{route_path_of, route_of}

-- ---- the table

pub record TableEntry : Type 0 where
  pub name : List ℕ
  pub given : GivenChannel

-- the channels, in the order in which they were made
abbrev pub Table : Type 0
Table = List TableEntry

abbrev pub given_at : List ℕ → Table → Option GivenChannel
given_at name [] = None
given_at name (entry ∷ later) = if bytes_eq name entry.name then Some entry.given else given_at name later

abbrev pub put_given : List ℕ → GivenChannel → Table → Table
put_given name given [] = []
put_given name given (entry ∷ later) =
    if bytes_eq name entry.name then record entry { given = given } ∷ later else entry ∷ put_given name given later

abbrev pub without_channel : List ℕ → Table → Table
without_channel name [] = []
without_channel name (entry ∷ later) = if bytes_eq name entry.name then later else entry ∷ without_channel name later

-- ---- what a request does

-- the reply, and the table afterwards
pub record Turn : Type 0 where
  pub reply : Reply
  pub table : Table

abbrev pub unmoved : Table → Reply → Turn
unmoved table reply = record { reply = reply; table = table }

-- one more event for a channel, which owes this reply
abbrev pub event_turn : Table → List ℕ → channel.Given → (GivenChannel → Reply) → Option GivenChannel → Turn
event_turn table name event owed None = unmoved table not_found
event_turn table name event owed (Some given) = record { reply = owed given; table = put_given name (with_event event given) table }

abbrev pub read_turn : Table → (GivenChannel → Reply) → Option GivenChannel → Turn
read_turn table owed None = unmoved table not_found
read_turn table owed (Some given) = unmoved table (owed given)

abbrev pub removed : Table → List ℕ → Option GivenChannel → Turn
removed table name None = unmoved table not_found
removed table name (Some given) = record { reply = bare 204; table = without_channel name table }

-- ---- making a channel

abbrev pub fresh : List ℕ → Parts → ℕ → TableEntry
fresh name base tolerance = record { name = name; given = record { base = base; tolerance = tolerance; events = [] } }

abbrev pub added : Table → List ℕ → Parts → ℕ → Turn
added table name base tolerance =
    if is_some (given_at name table) then unmoved table exists
    else (if nat_le 64 (length table) then unmoved table (bare 503)
    else record { reply = bare 201; table = table ++ fresh name base tolerance ∷ [] })

abbrev pub tried : Table → List ℕ → ℕ → Option Parts → Turn
tried table name tolerance None = unmoved table bad_base
tried table name tolerance (Some base) =
    if nat_lt max_tolerance tolerance then unmoved table bad_tolerance else added table name base tolerance

abbrev pub made : Table → List ℕ → Result (List ℕ × ℕ) BodyFault → Turn
made table name (Err fault) = unmoved table (body_fault_reply fault)
made table name (Ok said) = tried table name said.1 (base_of said.0)

-- ---- by method and route

abbrev pub has_method : List ℕ → Request → Bool
has_method method request = bytes_eq request.method method

abbrev pub turn_at : Table → Request → List ℕ → Resource → Turn
turn_at table r name Channel =
    if has_method (codes "PUT") r then made table name (body_said r.body)
    else (if has_method (codes "DELETE") r then removed table name (given_at name table)
    else unmoved table (not_allowed allow.PutDelete))
turn_at table r name Origin =
    if has_method (codes "PUT") r then event_turn table name (refreshed r.body) (refresh_owed r.body) (given_at name table)
    else unmoved table (not_allowed allow.Put)
turn_at table r name Decisions =
    if has_method (codes "PUT") r then event_turn table name (decided r.body) (decisions_owed r.body) (given_at name table)
    else unmoved table (not_allowed allow.Put)
turn_at table r name Live =
    if has_method (codes "GET") r then read_turn table live_owed (given_at name table)
    else unmoved table (not_allowed allow.Get)
turn_at table r name Why =
    if has_method (codes "GET") r then read_turn table why_owed (given_at name table)
    else unmoved table (not_allowed allow.Get)

abbrev pub routed : Table → Request → Option (List ℕ × Resource) → Turn
routed table r None = unmoved table not_found
routed table r (Some route) = turn_at table r route.0 route.1

-- what a request is answered, and what the table is afterwards
abbrev pub turn : Table → Request → Turn
turn table r = routed table r (route_of (route_path_of r.target))

-- ---- what stands already

abbrev pub is_live_resource_of_edge : Resource → Bool
is_live_resource_of_edge Channel = false
is_live_resource_of_edge Origin = false
is_live_resource_of_edge Decisions = false
is_live_resource_of_edge Live = true
is_live_resource_of_edge Why = false

abbrev pub is_to_live : Option (List ℕ × Resource) → Bool
is_to_live None = false
is_to_live (Some route) = is_live_resource_of_edge route.1

-- it reads the playlist that a channel wrote last, which stands there already
abbrev pub reads_playlist : Request → Bool
reads_playlist r = has_method (codes "GET") r && is_to_live (route_of (route_path_of r.target))

-- ---- lists of requests, the newest first

abbrev pub table_of : List Request → Table
table_of [] = []
table_of (r ∷ before) = (turn (table_of before) r).table

abbrev pub reply_to : List Request → Request → Reply
reply_to before r = (turn (table_of before) r).reply
