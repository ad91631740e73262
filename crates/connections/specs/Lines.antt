-- Those whose requests wait for their turn.
use Rattle.std.specs.Prelude.{◌≡◌, ◌≢◌, ℕ, ◌+◌, ◌*◌, ◌<◌, ◌≤◌, ◌==◌, ◌||◌, Bool, true, false, not, min, List, [], ◌∷◌, ◌++◌, filter, find, length, Option, Some, None, if◌then◌else◌}
use Rattle.std.specs.Option.{option_or, option_map}
use Rattle.http_edge.specs.Waiting.{no_channel}
use Rattle.connections.specs.declared.line.Standing.{Standing}
use Rattle.connections.specs.Seats.{places_below}

-- ---- a line

-- those that stand in it, in the order in which they joined it; and the channels' numbers in the order of their turns: the first is
-- that of the channel whose turn is longest ago
pub record LineState : Type 0 where
  pub standing : List Standing
  pub turns : List ℕ

-- each channel has its turn, and so have the requests that are of none
abbrev pub turn_count : ℕ
turn_count = no_channel + 1

-- nobody stands in it, and no channel had a turn
abbrev pub new_line : LineState
new_line = record { standing = []; turns = places_below turn_count }

-- the client of this place
abbrev pub is_at : ℕ → Standing → Bool
is_at place one = one.place == place

-- its request is on the channel of this number
abbrev pub is_of : ℕ → Standing → Bool
is_of channel one = one.channel == channel

abbrev pub is_other : ℕ → Standing → Bool
is_other place one = not (one.place == place)

abbrev pub is_in_line : ℕ → List Standing → Bool
is_in_line place [] = false
is_in_line place (one ∷ behind) = is_at place one || is_in_line place behind

-- how a client stands there whose request is on this channel: one that is none of a channel counts as of none
abbrev pub stands : ℕ → ℕ → Standing
stands place channel = record { place = place; channel = min channel no_channel }

-- ---- whose turn it is

-- the one that joined first, of the first channel in turn for which one stands
abbrev pub next_in : List Standing → List ℕ → Option Standing
next_in standing [] = None
next_in standing (channel ∷ later) = option_or (find (is_of channel) standing) (next_in standing later)

abbrev pub next : LineState → Option Standing
next line = next_in line.standing line.turns

-- a channel had its turn: it is the last now
abbrev pub had_turn : ℕ → List ℕ → List ℕ
had_turn channel [] = []
had_turn channel (one ∷ later) = if one == channel then later ++ one ∷ [] else one ∷ had_turn channel later

-- ---- what happens to a line

pub data LineEvent : Type 0 where
  -- a client's request, which is on the channel of this number, is whole
  joins : ℕ → ℕ → LineEvent
  -- a client goes, or has a turn that is no call
  leaves : ℕ → LineEvent
  -- the one whose turn it is is called
  calls : LineEvent

abbrev pub after_join : ℕ → ℕ → LineState → LineState
after_join place channel line =
    if is_in_line place line.standing then line else record line { standing = line.standing ++ stands place channel ∷ [] }

abbrev pub after_call : Option Standing → LineState → LineState
after_call None line = line
after_call (Some one) line = record { standing = filter (is_other one.place) line.standing; turns = had_turn one.channel line.turns }

abbrev pub after : LineEvent → LineState → LineState
after (joins place channel) line = after_join place channel line
after (leaves place) line = record line { standing = filter (is_other place) line.standing }
after calls line = after_call (next line) line

-- the events, the newest first
abbrev pub line_after : LineState → List LineEvent → LineState
line_after line [] = line
line_after line (e ∷ before) = after e (line_after line before)

abbrev pub place_of : Option Standing → Option ℕ
place_of one = option_map (λ (s : Standing). s.place) one

-- ---- how long a request waits

abbrev pub is_at_if_any : ℕ → Option Standing → Bool
is_at_if_any place None = false
is_at_if_any place (Some one) = is_at place one

abbrev pub is_of_if_any : ℕ → Option Standing → Bool
is_of_if_any channel None = false
is_of_if_any channel (Some one) = is_of channel one

-- it takes this client out of the line
abbrev pub concerns : ℕ → LineEvent → LineState → Bool
concerns place (joins k channel) line = false
concerns place (leaves k) line = k == place
concerns place calls line = is_at_if_any place (next line)

-- this client's request is on this channel
abbrev pub StandsFor : ℕ → ℕ → LineState → Type 0
StandsFor place channel line = find (is_at place) line.standing ≡ Some (record { place = place; channel = channel })

-- none of these events takes it out
abbrev pub Waits : ℕ → LineState → List LineEvent → Type 0
Waits place line [] = Unit {0}
Waits place line (e ∷ before) = Waits place line before × (concerns place e (line_after line before) ≡ false)

-- how many of the same channel stand before it
abbrev pub ahead : ℕ → ℕ → List Standing → ℕ
ahead channel place [] = 0
ahead channel place (one ∷ behind) =
    if is_at place one then 0 else (if is_of channel one then ahead channel place behind + 1 else ahead channel place behind)

abbrev pub is_turn_of : ℕ → LineEvent → LineState → Bool
is_turn_of channel (joins k other) line = false
is_turn_of channel (leaves k) line = false
is_turn_of channel calls line = is_of_if_any channel (next line)

-- how many turns a channel had
abbrev pub turns_had : ℕ → LineState → List LineEvent → ℕ
turns_had channel line [] = 0
turns_had channel line (e ∷ before) =
    if is_turn_of channel e (line_after line before) then turns_had channel line before + 1 else turns_had channel line before

-- while a request waits, its channel has no more turns than requests on it stood before it, and each other channel at most one
-- more: so the first request on a channel waits for at most one of each other channel, however many stand there
abbrev pub TurnsAreShared : Type 0
TurnsAreShared = (place channel : ℕ) (before later : List LineEvent) → let line : LineState = line_after new_line before in
    channel ≤ no_channel → StandsFor place channel line → Waits place line later
    → (turns_had channel line later ≤ ahead channel place line.standing)
    × ((other : ℕ) → other ≢ channel → turns_had other line later ≤ ahead channel place line.standing + 1)

-- ---- rounds

abbrev pub is_call : LineEvent → Bool
is_call (joins place channel) = false
is_call (leaves place) = false
is_call calls = true

abbrev pub calls_in : List LineEvent → ℕ
calls_in [] = 0
calls_in (e ∷ before) = if is_call e then calls_in before + 1 else calls_in before

-- in each of these rounds one is called, at least
abbrev pub CallEach : List (List LineEvent) → Type 0
CallEach [] = Unit {0}
CallEach (round ∷ before) = (1 ≤ calls_in round) × CallEach before

-- what happens in rounds, the newest first
abbrev pub events_in : List (List LineEvent) → List LineEvent
events_in [] = []
events_in (round ∷ before) = round ++ events_in before

-- if one is called in each round, the first request on a channel waits for fewer rounds than there are turns, and each later one for
-- at most so many more
abbrev pub RoundsAreFew : Type 0
RoundsAreFew = (place channel : ℕ) (before : List LineEvent) (rounds : List (List LineEvent)) → let line : LineState = line_after new_line before in
    channel ≤ no_channel → StandsFor place channel line → CallEach rounds → Waits place line (events_in rounds)
    → length rounds < turn_count * (ahead channel place line.standing + 1)

-- ---- what a server does to its line

-- these events, the newest first, lead from one line to another, and one is called among them, at least
pub record LineIsCalled (old new : LineState) : Type 0 where
  pub events : List LineEvent
  pub leads : new ≡ line_after old events
  pub called : 1 ≤ calls_in events
