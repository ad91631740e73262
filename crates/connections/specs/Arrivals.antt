-- Who came when, and which connection is given up.
use Rattle.std.specs.Prelude.{ℕ, ◌==◌, ◌&&◌, nat_le, nat_lt, not, Bool, true, false, List, [], ◌∷◌, Option, Some, None, option_map}
use Rattle.std.specs.Option.{option_or}
use Rattle.std.specs.List.{find}
use Rattle.std.specs.Time.{instant_nanos}
use Rattle.std.specs.declared.time.Instant.{Instant}
use Rattle.connections.specs.declared.arrivals.Arrival.{Arrival}
use Rattle.connections.specs.declared.conversation.Conversation.{Conversation}
use Rattle.connections.specs.declared.conversation.Conversation.TheVariants.{Asking, Answering}
use Rattle.connections.specs.Lines.{LineState, is_in_line}
use Rattle.connections.specs.Table.{State, at, held_of}

abbrev pub arrival_place : Arrival → ℕ
arrival_place arrival = arrival.place

-- it is of another place
abbrev pub is_elsewhere : ℕ → Arrival → Bool
is_elsewhere place arrival = not (arrival.place == place)

-- ---- time

-- an instant has come
abbrev pub has_come : Instant → Instant → Bool
has_come until now = nat_le (instant_nanos until) (instant_nanos now)

-- its time is up
abbrev pub is_late : Instant → Arrival → Bool
is_late now arrival = has_come arrival.until now

-- its time is up, and it doesn't wait for its turn
abbrev pub is_overdue : Instant → LineState → Arrival → Bool
is_overdue now line arrival = is_late now arrival && not (is_in_line arrival.place line.standing)

-- ---- what a connection is at

-- its request isn't whole
abbrev pub is_asking : Option Conversation → Bool
is_asking (Some (Asking bytes pieces)) = true
is_asking (Some (Answering rest status)) = false
is_asking None = false

-- it is answered, and its reply isn't gone
abbrev pub is_answered : Option Conversation → Bool
is_answered (Some (Answering rest status)) = true
is_answered (Some (Asking bytes pieces)) = false
is_answered None = false

abbrev pub is_being_answered : State → Arrival → Bool
is_being_answered s arrival = is_answered (at s arrival.place)

abbrev pub asks : State → Arrival → Bool
asks s arrival = is_asking (at s arrival.place)

-- bytes of its request are held
abbrev pub holds : State → Arrival → Bool
holds s arrival = nat_lt 0 (held_of (at s arrival.place))

-- ---- the first of connections in the order in which they came

abbrev pub first_client_arrival : List Arrival → Option ℕ
first_client_arrival [] = None
first_client_arrival (arrival ∷ later) = Some arrival.place

-- the first of which this is so: none of which it is so came before
abbrev pub first_that : (Arrival → Bool) → List Arrival → Option ℕ
first_that test arrivals = option_map arrival_place (find test arrivals)

-- for one that comes the client is given up that has asked longest; if none asks, the one that has been ending longest, and
-- only if all have a reply on its way the first of these
abbrev pub gives_place : State → List Arrival → List Arrival → Option ℕ
gives_place s served ending = option_or (first_that (asks s) served) (option_or (first_client_arrival ending) (first_client_arrival served))

-- its bytes are held, nothing came of it for its time, and it doesn't wait for its turn
abbrev pub is_quiet : State → Instant → LineState → Arrival → Bool
is_quiet s now line arrival = is_overdue now line arrival && holds s arrival

-- for bytes that have no room the client is given up that is quiet, and of which something came longest ago
abbrev pub gives_room : State → Instant → LineState → List Arrival → Option ℕ
gives_room s now line heard = first_that (is_quiet s now line) heard

-- for replies that have no room the client is given up that is answered, and that took something longest ago
abbrev pub gives_text : State → List Arrival → Option ℕ
gives_text s took = first_that (is_being_answered s) took
