-- What went through a client's device in its turn.
use Rattle.std.specs.Prelude.{◌≡◌, ℕ, zero, suc, ◌+◌, ◌<◌, ◌≤◌, ◌==◌, Bool, true, false, ◌++◌, List, [], ◌∷◌, length, map, Option, Some, None, ◌⊎◌}
use Rattle.std.specs.Io.KnownBytes.{Consumes, Appends}
use Rattle.http_edge.specs.declared.serving.EdgeFault.{EdgeFault}
use Rattle.connections.specs.declared.devices.Passage.{Passage}
use Rattle.connections.specs.declared.devices.Passage.TheVariants.{Bytes, WouldWait, HasFailed}
use Rattle.connections.specs.declared.turns.Turn.{Turn}
use Rattle.connections.specs.declared.turns.Turn.TheVariants.{Waits, Goes, Full, Done, Failed}
use Rattle.connections.specs.Devices.{DeviceStand, Calls, one_call}
use Rattle.connections.specs.Table.{State, at, left_of, part_of_request, request_bytes, reply_bytes, departure, Happens}
use Rattle.connections.specs.Limits.{reads_in_turn, drains_in_turn}
use Rattle.connections.specs.Runs.{EventsLeadTo}
use Rattle.connections.specs.Arrivals.{is_asking}
use Rattle.connections.specs.Wires.{GoesHeard, GoesTold}

-- there were so many calls, one after the other, and each moved a byte or more
unfoldable pub MovedEach : ℕ → Calls → Calls → Type 0
MovedEach zero old new = new ≡ old
MovedEach (suc n) old new = (middle : Calls) × MovedEach n old middle × (count : ℕ) × (0 < count) × (new ≡ one_call (Bytes count) middle)

-- there was one call
abbrev pub CalledOnce : Calls → Calls → Type 0
CalledOnce old new = (passage : Passage) × (new ≡ one_call passage old)

-- there were so many calls at the most, one after the other
unfoldable pub CalledAtMost : ℕ → Calls → Calls → Type 0
CalledAtMost zero old new = new ≡ old
CalledAtMost (suc n) old new = (new ≡ old) ⊎ ((middle : Calls) × CalledAtMost n old middle × CalledOnce middle new)

-- if the client stays, this is so
abbrev pub Stays : Turn → Type 0 → Type 0
Stays (Failed fault) P = Unit {0}
Stays Waits P = P
Stays Goes P = P
Stays Full P = P
Stays Done P = P

-- if it goes, this is so of its fault
abbrev pub IfGone : Turn → (EdgeFault → Type 0) → Type 0
IfGone (Failed fault) P = P fault
IfGone Waits P = Unit {0}
IfGone Goes P = Unit {0}
IfGone Full P = Unit {0}
IfGone Done P = Unit {0}

-- ---- hearing

-- pieces one after the other, of which the newest stands first
abbrev pub bytes_of_pieces : List (List ℕ) → List ℕ
bytes_of_pieces [] = []
bytes_of_pieces (piece ∷ before) = bytes_of_pieces before ++ piece

-- the client at this place said these pieces, the newest first, and each while its request wasn't whole
abbrev pub SaidWhileAsking : ℕ → State → List (List ℕ) → State → Type 0
SaidWhileAsking place old [] new = new ≡ old
SaidWhileAsking place old (piece ∷ before) new =
    (middle : State) × SaidWhileAsking place old before middle × (is_asking (at middle place) ≡ true) × Happens middle (request_bytes place piece) new

-- the reader gave some pieces, and they are what the client at this place said, in the same order. Nothing was read past the
-- one that made the request whole
pub record HasListened (reader_old reader_new : DeviceStand) (place : ℕ) (old new : State) : Type 0 where
  pub pieces : List (List ℕ)
  pub given : Consumes reader_old.bytes reader_new.bytes (bytes_of_pieces pieces)
  pub run : SaidWhileAsking place old pieces new

-- of its request so many bytes more were read, at least
abbrev pub AreRead : ℕ → ℕ → State → State → Type 0
AreRead count place old new = length (part_of_request (at old place)) + count ≤ length (part_of_request (at new place))

-- how far a client that asks still was heard in its turn: its last read would have to wait, or each read gave bytes of its request, or
-- there is no room for more
abbrev pub IsHeardOut : Turn → Option Passage → ℕ → State → State → Type 0
IsHeardOut Waits last place old new = last ≡ Some WouldWait
IsHeardOut Goes last place old new = AreRead reads_in_turn place old new
IsHeardOut Full last place old new = Unit {0}
IsHeardOut Done last place old new = ⊥
IsHeardOut (Failed fault) last place old new = ⊥

-- so it was until the last call, after which the client went for this fault
pub record HasListenedUntil (fault : EdgeFault) (reader_old reader_new : DeviceStand) (place : ℕ) (old new : State) : Type 0 where
  pub reader : DeviceStand
  pub state : State
  pub listened : HasListened reader_old reader place old state
  pub last : GoesHeard fault reader reader_new (at state place)
  pub happens : Happens state (departure place) new

-- ---- speaking

-- the writer took some pieces, and they are what the client at this place was sent, in the same order: the first bytes of what was
-- left of its reply
pub record HasSpoken (writer_old writer_new : DeviceStand) (place : ℕ) (old new : State) : Type 0 where
  pub pieces : List (List ℕ)
  pub taken : Appends writer_old.bytes writer_new.bytes (bytes_of_pieces pieces)
  pub left : left_of (at old place) ≡ bytes_of_pieces pieces ++ left_of (at new place)
  pub run : EventsLeadTo old (map (reply_bytes place) pieces) new

-- so it was until the last call, after which the client went for this fault
pub record HasSpokenUntil (fault : EdgeFault) (writer_old writer_new : DeviceStand) (place : ℕ) (old new : State) : Type 0 where
  pub writer : DeviceStand
  pub state : State
  pub spoken : HasSpoken writer_old writer place old state
  pub last : GoesTold fault writer writer_new
  pub happens : Happens state (departure place) new

-- ---- draining

-- the last call told the end, or failed
abbrev pub HasNoMore : Option Passage → Type 0
HasNoMore last = (last ≡ Some (Bytes 0)) ⊎ (last ≡ Some HasFailed)

-- nothing is unread: it told the end, or would wait
abbrev pub is_client_read_out : Option Passage → Bool
is_client_read_out None = false
is_client_read_out (Some (Bytes n)) = n == 0
is_client_read_out (Some WouldWait) = true
is_client_read_out (Some HasFailed) = false

-- the first read told that something was unread, or failed; what was still sent may have been passed over since, as often as in a turn
abbrev pub HasFoundMore : Calls → Calls → Type 0
HasFoundMore old new = (first : Passage) × (is_client_read_out (Some first) ≡ false) × CalledAtMost drains_in_turn (one_call first old) new
