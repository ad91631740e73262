-- Many clients at once: who is given up for whom, what was said and taken, and the limits.
use Rattle.std.specs.Prelude.{ℕ, zero, suc, ◌-◌, ◌^◌, Bool, true, false, List, [], ◌∷◌, codes, replicate, Option, Some, None}
use Rattle.std.specs.declared.time.Instant.{Instant}
use Rattle.byte_streams.specs.Devices.{one_more}
use Rattle.live_channel.specs.Channel.{Channel}
use Rattle.http_edge.specs.Edges.{NamedChannel}
use Rattle.http_edge.specs.Waiting.{turn_of}
use Rattle.connections.specs.Devices.{one_call}
use Rattle.connections.specs.declared.devices.Passage.TheVariants.{WouldWait, HasFailed}
use Rattle.connections.specs.declared.arrivals.Arrival.{Arrival}
use Rattle.connections.specs.declared.conversation.Conversation.{Conversation}
use Rattle.connections.specs.declared.conversation.Conversation.TheVariants.{Asking, Answering}
use Rattle.connections.specs.Arrivals.{gives_place, gives_room}
use Rattle.connections.specs.Limits.{most_held, most_shared, place_count, serving_nanos, quiet_nanos, ending_nanos, reads_in_turn, writes_in_turn, most_written, drains_in_turn}
use Rattle.connections.specs.declared.line.Standing.{Standing}
use Rattle.connections.specs.Lines.{LineState, LineEvent, joins, leaves, calls, after, line_after, next, place_of, ahead, turns_had}
use Rattle.connections.specs.Runs.{visits, said, was_sent}
use Rattle.connections.specs.Table.{State, ClientEvent, arrival, request_bytes, reply_bytes, departure, has_room, held_in, left_of, part_of_request, with_left}
use Rattle.connections.specs.Turns.{bytes_of_pieces}
use Rattle.worked_examples.specs.Tables.{HasValues}

-- docs/OPERATING.md, "Slow clients": 64 MiB, of which a longest request and a read are for one, 512 places, 10 s, a second, a quarter of a second, and the reads and writes of a turn
abbrev pub ClientsAreLimited : Type 0
ClientsAreLimited = HasValues (λ (n : ℕ). n) ((most_held, 67108864) ∷ (most_shared, 67108864 - 16384 - 4194304 - 65536) ∷ (place_count, 512) ∷ (serving_nanos, 10000000000) ∷ (quiet_nanos, 1000000000) ∷ (ending_nanos, 250000000) ∷ (reads_in_turn, 4)
    ∷ (writes_in_turn, 4) ∷ (most_written, 65536) ∷ (drains_in_turn, 32) ∷ [])

-- place 0: a client with a reply on its way; 1: one that has said nothing; 2: one that has said two bytes; 3: nobody
abbrev pub three : State
three = record { edge = []; places = Some (Answering (codes "xyz") 200) ∷ Some (Asking [] 0) ∷ Some (Asking (codes "GE") 1) ∷ None ∷ [] }

abbrev pub at_place : Instant → ℕ → Arrival
at_place until place = record { place = place; until = until }

abbrev pub standing : ℕ → ℕ → Standing
standing place channel = record { place = place; channel = channel }

-- for one that comes, the client is given up that has asked longest; if none asks, the one that has been ending longest; and
-- only if all have a reply on its way, the one that came first
abbrev pub PlacesAreGiven : Type 0
PlacesAreGiven = (until : Instant) → HasValues (λ (served : List Arrival). gives_place three served (at_place until 3 ∷ [])) (
    (at_place until 0 ∷ at_place until 2 ∷ at_place until 1 ∷ [], Some 2) ∷ (at_place until 0 ∷ [], Some 3) ∷ [])

abbrev pub RepliesAreGivenUpLast : Type 0
RepliesAreGivenUpLast = (until : Instant) → HasValues (λ (served : List Arrival). gives_place three served []) (
    (at_place until 0 ∷ at_place until 1 ∷ [], Some 1) ∷ (at_place until 0 ∷ [], Some 0) ∷ ([], None) ∷ [])

-- so many seconds after the clock's start
abbrev pub second : ℕ → Instant
second n = record { since_start = record { secs = n; nanos = 0 } }

-- at the second 7, with the client of place 2 in line or not: those that are at places 0 and 1 hold no bytes
abbrev pub room_at_seven : List Standing × List Arrival → Option ℕ
room_at_seven it = gives_room three (second 7) (record { standing = it.0; turns = [] }) it.1

-- for bytes that have no room it is the first whose bytes are held, of which nothing came for its time, and that doesn't stand in line
abbrev pub RoomIsGiven : Type 0
RoomIsGiven = HasValues room_at_seven (
    (([], at_place (second 5) 0 ∷ at_place (second 5) 1 ∷ at_place (second 7) 2 ∷ []), Some 2)
    ∷ (([], at_place (second 5) 0 ∷ at_place (second 8) 2 ∷ []), None) ∷ (([], at_place (second 5) 0 ∷ at_place (second 5) 1 ∷ []), None)
    ∷ ((standing 2 0 ∷ [], at_place (second 5) 2 ∷ []), None) ∷ [])

-- a client that asks, at a place that is one of many, of which so many bytes are held
abbrev pub asking : ℕ → Option Conversation
asking count = Some (Asking (replicate count 120) 1)

-- of the second place most bytes are held, 3 of 5: it has room past the bound for all, and so has another that has as many. Others
-- have room below it
abbrev pub RoomIsLeft : Type 0
RoomIsLeft = HasValues (λ (one : ℕ × ℕ). has_room (record { edge = []; places = asking 2 ∷ asking 3 ∷ None ∷ [] }) one.0 one.1) (
    ((0, 62832635), true) ∷ ((0, 62832636), false) ∷ ((1, 62832636), true) ∷ ((2, 62832636), false) ∷ ((2, 5), true) ∷ [])

abbrev pub BytesAreHeld : Type 0
BytesAreHeld = HasValues held_in ((three.places, 2) ∷ (Some (Asking (codes "GE") 1) ∷ Some (Asking (codes "PUT") 2) ∷ [], 5)
    ∷ (Some (Asking (codes "GET /") 1) ∷ None ∷ None ∷ None ∷ Some (Asking (codes "PUT") 2) ∷ [], 8) ∷ ([], 0) ∷ [])

abbrev pub RepliesAreLeft : Type 0
RepliesAreLeft = HasValues left_of ((Some (Answering (codes "xyz") 200), codes "xyz") ∷ (Some (Asking (codes "GE") 1), []) ∷ (None, []) ∷ [])

-- what was read of a request that isn't whole
abbrev pub PartsAreRead : Type 0
PartsAreRead = HasValues part_of_request ((Some (Answering (codes "xyz") 200), []) ∷ (Some (Asking (codes "GE") 1), codes "GE") ∷ (None, []) ∷ [])

abbrev pub BytesAreTaken : Type 0
BytesAreTaken = HasValues (with_left (codes "z")) (
    (Some (Answering (codes "xyz") 200), Some (Answering (codes "z") 200)) ∷ (Some (Asking (codes "GE") 1), Some (Asking (codes "GE") 1)) ∷ (None, None) ∷ [])

-- what happened, the newest first: at place 1 a client went, and another one came
abbrev pub events : List ClientEvent
events =
    reply_bytes 1 (codes "lo") ∷ reply_bytes 1 (codes "hel") ∷ request_bytes 2 (codes "Q") ∷ request_bytes 1 (codes "T /") ∷ request_bytes 1 (codes "GE") ∷ arrival 1 ∷ arrival 2 ∷ departure 1 ∷ reply_bytes 1 (codes "went away") ∷ request_bytes 1 (codes "PUT") ∷ arrival 1 ∷ []

abbrev pub VisitsAreCounted : Type 0
VisitsAreCounted = HasValues (λ (place : ℕ). visits place events) ((1, 2) ∷ (2, 1) ∷ (3, 0) ∷ [])

-- what the last client there said since it came, and what it was sent
abbrev pub WordsAreSaid : Type 0
WordsAreSaid = HasValues (λ (place : ℕ). said place events) ((1, codes "GET /") ∷ (2, codes "Q") ∷ (3, []) ∷ [])

abbrev pub BytesAreSent : Type 0
BytesAreSent = HasValues (λ (place : ℕ). was_sent place events) ((1, codes "hello") ∷ (2, []) ∷ [])

abbrev pub PiecesAreJoined : Type 0
PiecesAreJoined = HasValues bytes_of_pieces (
    (codes "T /" ∷ codes "GE" ∷ [], codes "GET /") ∷ ([], []) ∷ (codes "/" ∷ codes " " ∷ codes "T" ∷ codes "E" ∷ codes "G" ∷ [], codes "GET /") ∷ [])

-- the same of more: a client at place 1 says five pieces, while others come and go before and after it
abbrev pub many : List ClientEvent
many =
    reply_bytes 1 (codes "lo") ∷ departure 2 ∷ arrival 0 ∷ reply_bytes 2 (codes "yes") ∷ arrival 2 ∷ request_bytes 2 (codes "x") ∷ reply_bytes 0 (codes "no") ∷ request_bytes 1 (codes "/") ∷ request_bytes 1 (codes " ")
    ∷ reply_bytes 1 (codes "hel") ∷ request_bytes 1 (codes "T") ∷ request_bytes 1 (codes "E") ∷ request_bytes 1 (codes "G") ∷ arrival 1 ∷ []

abbrev pub visits_said_and_sent : ℕ → ℕ × List ℕ × List ℕ
visits_said_and_sent place = (visits place many, said place many, was_sent place many)

abbrev pub OthersAreApart : Type 0
OthersAreApart = HasValues visits_said_and_sent ((0, (1, [], [])) ∷ (1, (1, codes "GET /", codes "hello")) ∷ (2, (1, [], codes "yes")) ∷ (3, (0, [], [])) ∷ [])

-- a device's calls, and those that failed: one more each time. A count stays at 2^64 - 1
abbrev pub CallsAreCounted : Type 0
CallsAreCounted = HasValues (one_call WouldWait) (
    (record { count = 5; last = None }, record { count = 6; last = Some WouldWait })
    ∷ (record { count = 2 ^ 64 - 1; last = Some HasFailed }, record { count = 2 ^ 64 - 1; last = Some WouldWait }) ∷ [])

abbrev pub FailuresAreCounted : Type 0
FailuresAreCounted = HasValues one_more (
    (record { count = 5; last = false }, record { count = 6; last = true })
    ∷ (record { count = 2 ^ 64 - 1; last = true }, record { count = 2 ^ 64 - 1; last = true }) ∷ [])

-- ---- whose turn it is

-- two channels, of which `a` was made first
abbrev pub two : Channel → List NamedChannel
two channel = record { name = codes "a"; channel = channel } ∷ record { name = codes "b"; channel = channel } ∷ []

-- docs/OPERATING.md, "Slow clients": a GET of live.m3u8 takes no turn. Every other request takes one of its channel, of which the
-- first has the number 0, and what is on no channel one of none, 64
abbrev pub TurnsAreTaken : Type 0
TurnsAreTaken = (channel : Channel) → HasValues (λ (asked : Bool × List ℕ). turn_of (two channel) asked.0 asked.1) (
    ((true, codes "/channels/a/live.m3u8"), None) ∷ ((true, codes "/channels/c/live.m3u8?x=1"), None)
    ∷ ((false, codes "/channels/b/live.m3u8"), Some 1) ∷ ((true, codes "/channels/a/why"), Some 0) ∷ ((true, codes "/channels/b/why?x=1"), Some 1)
    ∷ ((false, codes "/channels/b/origin"), Some 1) ∷ ((false, codes "/channels/b"), Some 1) ∷ ((false, codes "/channels/c"), Some 64) ∷ ((true, codes "/other"), Some 64) ∷ [])

-- three stand for the channel 1, one for 0 and one for none; the turn of 0 is longest ago, and that of 64 came last
abbrev pub line : LineState
line = record { standing = standing 3 1 ∷ standing 4 1 ∷ standing 5 0 ∷ standing 7 1 ∷ standing 6 64 ∷ []; turns = 0 ∷ 1 ∷ 64 ∷ [] }

abbrev pub calls_made : ℕ → List LineEvent
calls_made zero = []
calls_made (suc n) = calls ∷ calls_made n

-- each channel has its turn, and of its clients the one that came first
abbrev pub ChannelsHaveTurns : Type 0
ChannelsHaveTurns = HasValues (λ (n : ℕ). place_of (next (line_after line (calls_made n)))) ((0, Some 5) ∷ (1, Some 3) ∷ (2, Some 6) ∷ (3, Some 4) ∷ (4, Some 7) ∷ (5, None) ∷ [])

-- in four calls
abbrev pub TurnsAreCounted : Type 0
TurnsAreCounted = HasValues (λ (channel : ℕ). turns_had channel line (calls_made 4)) ((0, 1) ∷ (1, 2) ∷ (64, 1) ∷ (2, 0) ∷ [])

-- those of its own channel count
abbrev pub PlacesAhead : Type 0
PlacesAhead = HasValues (λ (one : ℕ × ℕ). ahead one.0 one.1 line.standing) (((1, 3), 0) ∷ ((1, 4), 1) ∷ ((1, 7), 2) ∷ ((0, 5), 0) ∷ ((64, 6), 0) ∷ [])

-- who joins stands behind the others, and once; a number that is of no channel is 64
abbrev pub ClientsJoin : Type 0
ClientsJoin = HasValues (λ (one : ℕ × ℕ). (after (joins one.0 one.1) (record { standing = standing 3 1 ∷ []; turns = [] })).standing) (
    ((4, 0), standing 3 1 ∷ standing 4 0 ∷ []) ∷ ((3, 0), standing 3 1 ∷ []) ∷ ((4, 70), standing 3 1 ∷ standing 4 64 ∷ []) ∷ [])

-- who goes leaves the line, and whose turn it is stays so for the others
abbrev pub ClientsLeave : Type 0
ClientsLeave = HasValues (λ (place : ℕ). place_of (next (after (leaves place) line))) ((5, Some 3) ∷ (3, Some 5) ∷ (9, Some 5) ∷ [])
