-- A client, and what its turn came to.
use Rattle.std.specs.Prelude.{◌≡◌, ◌≢◌, ℕ, zero, suc, ◌+◌, ◌*◌, ◌≤◌, Bool, true, false, List, [], ◌∷◌, ◌++◌, codes, length, bytes_eq, Option, Some, ◌⊎◌}
use Rattle.http_edge.specs.declared.serving.EdgeFault.{EdgeFault}
use Rattle.http_edge.specs.declared.serving.EdgeFault.TheVariants.{Read}
use Rattle.http_messages.specs.Requests.{IsUnfinished}
use Rattle.http_messages.specs.Received.{IsAsked}
use Rattle.http_messages.specs.declared.receiving.Asked.{Asked}
use Rattle.http_messages.specs.declared.receiving.Asked.TheVariants as asked
use Rattle.http_edge.specs.Edges.{NamedChannel}
use Rattle.http_edge.specs.Served.{BeginsWithRead}
use Rattle.http_edge.specs.Waiting.{no_channel, turn_of}
use Rattle.connections.specs.declared.line.When.{When}
use Rattle.connections.specs.declared.line.When.TheVariants.{AtOnce, InLine, NoMemory, NotYet, Failed}
use Rattle.connections.specs.declared.line.When.TheVariants as when
use Rattle.connections.specs.declared.line.Part.{Part}
use Rattle.connections.specs.declared.conversation.Conversation.{Conversation}
use Rattle.connections.specs.declared.devices.Passage.{Passage}
use Rattle.connections.specs.declared.devices.Passage.TheVariants.{Bytes, WouldWait, HasFailed}
use Rattle.connections.specs.Arrivals.{is_asking}
use Rattle.connections.specs.Devices.{DeviceStand, AreNext}
use Rattle.connections.specs.Limits.{reads_in_turn, writes_in_turn}
use Rattle.connections.specs.Runs.{EventsLeadTo}
use Rattle.connections.specs.Table.{State, ClientEvent, arrival, request_bytes, reply_bytes, departure, at, left_of, part_of_request}
use Rattle.connections.specs.declared.turns.Turn.{Turn}
use Rattle.connections.specs.declared.turns.Turn.TheVariants.{Goes, Done}
use Rattle.connections.specs.Turns.{AreRead, CalledAtMost, MovedEach, HasListened, HasListenedUntil, HasNoMore, HasSpoken, HasSpokenUntil, IfGone, IsHeardOut, Stays, is_client_read_out}

-- its device, its place, whether its end alone is awaited, and whether the system was asked to tell of it
pub record ClientAt (X : Type 0) : Type 0 where
  pub device : X
  pub place : ℕ
  pub is_ending : Bool
  pub is_watched : Bool

-- ---- when it has its turn

abbrev pub IfAtOnce : When → (ℕ → Type 0) → Type 0
IfAtOnce (AtOnce call) P = P call
IfAtOnce (when.Part part) P = Unit {0}
IfAtOnce (InLine channel) P = Unit {0}
IfAtOnce NoMemory P = Unit {0}
IfAtOnce NotYet P = Unit {0}
IfAtOnce (Failed fault) P = Unit {0}

abbrev pub IfPart : When → (Part → Type 0) → Type 0
IfPart (when.Part part) P = P part
IfPart (AtOnce call) P = Unit {0}
IfPart (InLine channel) P = Unit {0}
IfPart NoMemory P = Unit {0}
IfPart NotYet P = Unit {0}
IfPart (Failed fault) P = Unit {0}

abbrev pub IfInLine : When → (ℕ → Type 0) → Type 0
IfInLine (InLine channel) P = P channel
IfInLine (when.Part part) P = Unit {0}
IfInLine (AtOnce call) P = Unit {0}
IfInLine NoMemory P = Unit {0}
IfInLine NotYet P = Unit {0}
IfInLine (Failed fault) P = Unit {0}

abbrev pub IfLookFailed : When → (EdgeFault → Type 0) → Type 0
IfLookFailed (Failed fault) P = P fault
IfLookFailed (AtOnce call) P = Unit {0}
IfLookFailed (when.Part part) P = Unit {0}
IfLookFailed (InLine channel) P = Unit {0}
IfLookFailed NoMemory P = Unit {0}
IfLookFailed NotYet P = Unit {0}

-- the bytes begin with a whole request that takes a turn of the channel of this number, or they are refused, which takes a turn of
-- none
abbrev pub TakesTurn : List NamedChannel → ℕ → Asked → Type 0
TakesTurn edge channel (asked.Request request) = turn_of edge (bytes_eq request.method (codes "GET")) request.target ≡ Some channel
TakesTurn edge channel (asked.Refused refusal) = channel ≡ no_channel

pub record TakesTurnOf (edge : List NamedChannel) (bytes : List ℕ) (channel : ℕ) : Type 0 where
  pub asked : Asked
  pub asks : IsAsked bytes asked
  pub takes : TakesTurn edge channel asked

-- what was read of its request and what it sends now begin with a whole request that reads a playlist that stands
abbrev pub SendsRead : DeviceStand → Option Conversation → Type 0
SendsRead reader it = (bytes : List ℕ) × AreNext bytes reader.bytes × BeginsWithRead (part_of_request it ++ bytes)

-- its request isn't whole with what it sends now, which are so many bytes
abbrev pub SendsPart : DeviceStand → Option Conversation → ℕ → Type 0
SendsPart reader it count = (bytes : List ℕ) × AreNext bytes reader.bytes × (length bytes ≡ count) × IsUnfinished (part_of_request it ++ bytes)

-- its request is whole with it, and takes a turn of this channel
abbrev pub SendsWhole : DeviceStand → State → Option Conversation → ℕ → Type 0
SendsWhole reader s it channel = (bytes : List ℕ) × AreNext bytes reader.bytes × TakesTurnOf s.edge (part_of_request it ++ bytes) channel

-- it can't hold the others: its end alone is awaited, or it is answered, or it reads what stands
abbrev pub IsShort : {X : Type 0} → (X → DeviceStand) → ClientAt X → State → Type 0
IsShort incoming client s =
    (client.is_ending ≡ true) ⊎ (is_asking (at s client.place) ≡ false) ⊎ SendsRead (incoming client.device) (at s client.place)

-- of its reply so many bytes fewer are left, at least
abbrev pub AreSent : ℕ → ℕ → State → State → Type 0
AreSent count place old new = length (left_of (at new place)) + count ≤ length (left_of (at old place))

-- a client that stands so has its turn then, by a look after which its device is this. At once only if it can't hold the others; a part
-- isn't its whole request; in line only with a whole one that takes a turn of this channel; not yet if the look would wait. Who is
-- ending or answered has it at once, and there is no memory only to see bytes that it sent
pub record IsWhen {X : Type 0} (incoming : X → DeviceStand) (client : ClientAt X) (after : X) (s : State) (it : When) : Type 0 where
  pub at_once : IfAtOnce it (λ call. (call ≡ client.place) × IsShort incoming client s)
  pub part : IfPart it (λ part. (part.place ≡ client.place) × SendsPart (incoming client.device) (at s client.place) part.count)
  pub in_line : IfInLine it (λ channel. (client.is_ending ≡ false) × (is_asking (at s client.place) ≡ true) × SendsWhole (incoming client.device) s (at s client.place) channel)
  pub not_yet : it ≡ NotYet → (incoming after).calls.last ≡ Some WouldWait
  pub failed : IfLookFailed it (λ fault. (fault ≡ Read) × ((incoming after).calls.last ≡ Some HasFailed))
  pub ends : client.is_ending ≡ true → it ≡ AtOnce client.place
  pub answered : is_asking (at s client.place) ≡ false → it ≡ AtOnce client.place
  pub no_memory : it ≡ NoMemory → (count : ℕ) × ((incoming after).calls.last ≡ Some (Bytes count))

-- ---- a turn

-- a device was read as often as it may be in a turn at the most, and then written to as often as it may be at the most
pub record HasFewCalls {X : Type 0} (incoming outgoing : X → DeviceStand) (before after : X) : Type 0 where
  pub device : X
  pub reads : CalledAtMost reads_in_turn (incoming before).calls (incoming device).calls
  pub writes : CalledAtMost writes_in_turn (outgoing device).calls (outgoing after).calls

-- its device before a turn and after it, and how it stands as what is read and as what is written to
module _ {X : Type 0} (incoming outgoing : X → DeviceStand) (place : ℕ) (before after : X) (old new : State) where
  -- it was heard, and then it was told of its reply
  pub record HasTurned : Type 0 where
    pub device : X
    pub state : State
    pub heard : HasListened (incoming before) (incoming device) place old state
    pub told : HasSpoken (outgoing device) (outgoing after) place state new

  -- so it was until the last call, after which it went for this fault
  abbrev pub HasTurnedUntil : EdgeFault → Type 0
  HasTurnedUntil fault =
      HasListenedUntil fault (incoming before) (incoming after) place old new
      ⊎ ((device : X) × (state : State) × HasListened (incoming before) (incoming device) place old state × HasSpokenUntil fault (outgoing device) (outgoing after) place state new)

  -- it was read, or written to, as often as it may be in a turn, and each call moved a byte or more
  abbrev pub HasMoved : Type 0
  HasMoved =
      MovedEach reads_in_turn (incoming before).calls (incoming after).calls
      ⊎ ((device : X) × MovedEach writes_in_turn (outgoing device).calls (outgoing after).calls)

  -- its last call would have had to wait
  abbrev pub HasToWait : Type 0
  HasToWait = ((incoming after).calls.last ≡ Some WouldWait) ⊎ ((outgoing after).calls.last ≡ Some WouldWait)

  -- what a turn comes to of a client that asks or is answered. What it said and took is what went through its device, in order. If it is
  -- done, its request is whole and nothing is left of its reply. If it asks still, it was heard as far as it could be. If it goes on,
  -- each call moved bytes
  pub record TurnComesTo (result : Turn) : Type 0 where
    pub turned : Stays result HasTurned
    pub gone : IfGone result HasTurnedUntil
    pub whole : result ≡ Done → is_asking (at new place) ≡ false
    pub done : result ≡ Done → left_of (at new place) ≡ []
    pub heard : is_asking (at new place) ≡ true → IsHeardOut result (incoming after).calls.last place old new
    pub moved : result ≡ Goes → HasMoved
    pub sent : result ≡ Goes → is_asking (at old place) ≡ false → AreSent writes_in_turn place old new

-- the last call told its end, or failed; or it was granted what it asked, and nothing that it sent is unread
abbrev pub ConnectionHasEnded : Bool → Option Passage → Type 0
ConnectionHasEnded granted last = HasNoMore last ⊎ ((granted ≡ true) × (is_client_read_out last ≡ true))

-- ---- turn after turn

-- what happened was at other places
abbrev pub AreElsewhere : ℕ → List ClientEvent → Type 0
AreElsewhere place [] = Unit {0}
AreElsewhere place (arrival k ∷ before) = (place ≢ k) × AreElsewhere place before
AreElsewhere place (request_bytes k piece ∷ before) = (place ≢ k) × AreElsewhere place before
AreElsewhere place (reply_bytes k piece ∷ before) = (place ≢ k) × AreElsewhere place before
AreElsewhere place (departure k ∷ before) = (place ≢ k) × AreElsewhere place before

-- so many turns of a client went on, in each of which this was done; before each of them others may have had theirs
unfoldable pub WentOn : (ℕ → State → State → Type 0) → ℕ → ℕ → State → State → Type 0
WentOn Moves zero place old new = new ≡ old
WentOn Moves (suc n) place old new =
    (before middle : State) × (events : List ClientEvent)
    × WentOn Moves n place old before × EventsLeadTo before events middle × AreElsewhere place events × Moves place middle new

-- after so many turns that went on, four times as many bytes of the reply are gone, at least
abbrev pub RepliesAreSent : Type 0
RepliesAreSent = (turns place : ℕ) (old new : State) → WentOn (AreSent writes_in_turn) turns place old new → AreSent (writes_in_turn * turns) place old new

-- after so many turns that left a client asking, four times as many bytes of its request are there, at least
abbrev pub RequestsAreHeard : Type 0
RequestsAreHeard = (turns place : ℕ) (old new : State) → WentOn (AreRead reads_in_turn) turns place old new → AreRead (reads_in_turn * turns) place old new
