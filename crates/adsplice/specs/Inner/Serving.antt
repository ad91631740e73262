-- Who has its turn, and what becomes of it then.
use Rattle.std.specs.Prelude.{◌≡◌, ◌≢◌, ◌⊎◌, ◌+◌, ◌<◌, ◌==◌, ◌&&◌, ℕ, zero, suc, nat_lt, Bool, true, false, not, ◌||◌, List, [], ◌∷◌, ◌++◌, length, Option, Some, None, filter, slice_index_or, slice_set}
use Rattle.std.specs.Time.{instant_nanos, FitsClock}
use Rattle.std.specs.declared.time.Instant.{Instant}
use Rattle.connections.specs.declared.arrivals.Arrival.{Arrival}
use Rattle.connections.specs.declared.conversation.Conversation.{Conversation}
use Rattle.connections.specs.declared.turns.Turn.{Turn}
use Rattle.connections.specs.declared.turns.Turn.TheVariants.{Waits, Goes, Full, Done, Failed}
use Rattle.connections.specs.declared.devices.Passage.TheVariants.{WouldWait}
use Rattle.connections.specs.Arrivals.{asks, first_that, gives_place, is_asking, is_elsewhere}
use Rattle.connections.specs.Clients.{ClientAt, TurnComesTo}
use Rattle.connections.specs.Devices.{DeviceStand}
use Rattle.connections.specs.Limits.{most_held}
use Rattle.connections.specs.Lines.{LineState, LineEvent, joins, leaves, calls, after, line_after, next, place_of, is_in_line}
use Rattle.connections.specs.Table.{State, at, held_in, left_of}
use Rattle.connections.specs.Turns.{IfGone}
use Rattle.connections.specs.Wires.{HasHeard, GoesHeard}
use Rattle.adsplice.specs.Clients.{ClientsState, is_granted}
use Rattle.adsplice.specs.Inner.Leaving.{not_served}

-- who is at this place
abbrev pub client_at : {X : Type 0} → List (Option (ClientAt X)) → ℕ → Option (ClientAt X)
client_at clients place = slice_index_or clients place None

-- no other connection is another one
pub record OthersStay (place : ℕ) (old new : State) : Type 0 where
  pub stay : (other : ℕ) → other ≢ place → at new other ≡ at old other

-- ---- a turn

module _ {X : Type 0} (incoming outgoing : X → DeviceStand) (room place : ℕ) where
  -- this client had its turn: it has its device of after the turn. Once it is ending, nothing of it is heard or told
  pub record HasTurn (client : ClientAt X) (clients later : List (Option (ClientAt X))) (old new : State) (turn : Turn) : Type 0 where
    pub device : X
    pub stands : later ≡ slice_set clients place (Some (record client { device = device }))
    pub comes : client.is_ending ≡ false → TurnComesTo incoming outgoing place client.device device old new turn
    pub full : turn ≡ Full → most_held < held_in new.places + room
    pub passed : client.is_ending ≡ true → new ≡ old

  -- who is there had its turn, at its own place; if nobody is, nothing happens
  abbrev pub HadTurn : Option (ClientAt X) → List (Option (ClientAt X)) → List (Option (ClientAt X)) → State → State → Option Turn → Type 0
  HadTurn None clients later old new turn = (later ≡ clients) × (new ≡ old) × (turn ≡ None)
  HadTurn (Some client) clients later old new turn = client.place ≡ place → (its : Turn) × (turn ≡ Some its) × HasTurn client clients later old new its

-- ---- a part of a request

module _ {X : Type 0} (incoming : X → DeviceStand) (place : ℕ) where
  -- of this client a part of its request was read, once. What it said is what its device gave; if it goes, that read is why
  pub record ReadsPart (client : ClientAt X) (clients later : List (Option (ClientAt X))) (old new : State) (turn : Turn) : Type 0 where
    pub device : X
    pub stands : later ≡ slice_set clients place (Some (record client { device = device }))
    pub heard : turn ≡ Goes → HasHeard (incoming client.device) (incoming device) place old new
    pub waits : turn ≡ Waits → (incoming device).calls.last ≡ Some WouldWait
    pub stays : (turn ≡ Waits) ⊎ (turn ≡ Full) → new ≡ old
    pub gone : IfGone turn (λ fault. GoesHeard fault (incoming client.device) (incoming device) (at old place))
    pub done : turn ≡ Done → ⊥

  -- who is there had a part read, at its own place; if nobody is, nothing happens
  abbrev pub HadPartRead : Option (ClientAt X) → List (Option (ClientAt X)) → List (Option (ClientAt X)) → State → State → Option Turn → Type 0
  HadPartRead None clients later old new turn = (later ≡ clients) × (new ≡ old) × (turn ≡ None)
  HadPartRead (Some client) clients later old new turn = client.place ≡ place → (its : Turn) × (turn ≡ Some its) × ReadsPart client clients later old new its

-- ---- what becomes of a client after its turn

-- its connection stays, or is over: then nothing is at its place. No other one is another
pub record MayLeave (place : ℕ) (old new : State) : Type 0 where
  pub others : (other : ℕ) → other ≢ place → at new other ≡ at old other
  pub here : (at new place ≡ at old place) ⊎ (at new place ≡ None)

-- it has left its place
abbrev pub HasLeft : {X : Type 0} → Option (ClientAt X) → ℕ → State → Type 0
HasLeft None place s = Unit {0}
HasLeft (Some client) place s = client.place ≡ place → at s place ≡ None

-- it is there with the same device; the system may have been asked to tell of it
abbrev pub IsThere : {X : Type 0} → Option (ClientAt X) → Option (ClientAt X) → Type 0
IsThere None later = later ≡ None
IsThere {X} (Some client) later =
    (same : ClientAt X) × (later ≡ Some same) × (same.device ≡ client.device) × (same.place ≡ client.place) × (same.is_ending ≡ client.is_ending) × (client.is_watched ≡ true → same.is_watched ≡ true)

-- it is closed, or its end alone is awaited
abbrev pub is_over : {X : Type 0} → Option (ClientAt X) → Bool
is_over None = true
is_over (Some client) = client.is_ending

-- the system is asked to tell of it, or it is over
abbrev pub is_awaited : {X : Type 0} → Option (ClientAt X) → Bool
is_awaited None = true
is_awaited (Some client) = client.is_ending || client.is_watched

-- what becomes of it by what its turn came to: who has to be waited for, or goes on, is awaited; who is done, or gone, is over
abbrev pub FollowsTurn : {X : Type 0} → Option Turn → Option (ClientAt X) → Type 0
FollowsTurn None later = Unit {0}
FollowsTurn (Some Waits) later = is_awaited later ≡ true
FollowsTurn (Some Goes) later = is_awaited later ≡ true
FollowsTurn (Some Full) later = Unit {0}
FollowsTurn (Some Done) later = is_over later ≡ true
FollowsTurn (Some (Failed fault)) later = is_over later ≡ true

-- it leaves the line, however often, and nothing else happens there
abbrev pub AllLeave : ℕ → List LineEvent → Type 0
AllLeave place [] = Unit {0}
AllLeave place (joins k channel ∷ before) = ⊥
AllLeave place (calls ∷ before) = ⊥
AllLeave place (leaves k ∷ before) = (k ≡ place) × AllLeave place before

pub record LeavesLine (place : ℕ) (old new : LineState) : Type 0 where
  pub events : List LineEvent
  pub leads : new ≡ line_after old events
  pub all : AllLeave place events

-- at each other place is who was there
abbrev pub OthersAreThere : {X : Type 0} → ℕ → List (Option (ClientAt X)) → List (Option (ClientAt X)) → Type 0
OthersAreThere place clients later = (other : ℕ) → other ≢ place → client_at later other ≡ client_at clients other

-- all others are there with their sockets. In each list they stand in their order, with their times
pub record OthersKeep {X : Type 0} (place : ℕ) (clients later : ClientsState X) : Type 0 where
  pub there : OthersAreThere place clients.at later.at
  pub served : filter (is_elsewhere place) later.served ≡ filter (is_elsewhere place) clients.served
  pub ending : filter (is_elsewhere place) later.ending ≡ filter (is_elsewhere place) clients.ending
  pub heard : filter (is_elsewhere place) later.heard ≡ filter (is_elsewhere place) clients.heard
  pub took : filter (is_elsewhere place) later.took ≡ filter (is_elsewhere place) clients.took
  pub short : filter (is_elsewhere place) later.short ≡ filter (is_elsewhere place) clients.short

-- the system is asked to tell of it
pub record IsWatched {X : Type 0} (place : ℕ) (clients later : ClientsState X) : Type 0 where
  pub here : IsThere (client_at clients.at place) (client_at later.at place)
  pub awaited : is_awaited (client_at later.at place) ≡ true
  pub others : OthersAreThere place clients.at later.at
  pub rest : later ≡ record clients { at = later.at }

-- it is closed, and stands in no list any more
pub record IsClosed {X : Type 0} (place : ℕ) (clients later : ClientsState X) (old new : State) : Type 0 where
  pub gone : client_at later.at place ≡ None
  pub others : OthersAreThere place clients.at later.at
  pub lists : later ≡ record (not_served place clients) { at = later.at; vacant = later.vacant; ending = filter (is_elsewhere place) clients.ending }
  pub leaves : MayLeave place old new
  pub left : HasLeft (client_at clients.at place) place new

-- it comes last in a list, in which it stands once; or there is no memory for that, and it is closed
pub record ComesLast {X : Type 0} (place : ℕ) (before now : List Arrival) (later : List (Option (ClientAt X))) : Type 0 where
  pub until : Instant
  pub last : (now ≡ filter (is_elsewhere place) before ++ record { place = place; until = until } ∷ []) ⊎ (client_at later place ≡ None)

-- this instant is so many nanoseconds after that one, or that one itself if the clock doesn't reach so far
pub record IsLater (nanos : ℕ) (now until : Instant) : Type 0 where
  pub later : FitsClock (instant_nanos now + nanos) → instant_nanos until ≡ instant_nanos now + nanos
  pub last : ¬ (FitsClock (instant_nanos now + nanos)) → until ≡ now

-- it comes last in a list, in which it stands once, and its time there is so many nanoseconds from now on
pub record IsLastFor (nanos : ℕ) (now : Instant) (place : ℕ) (before later : List Arrival) : Type 0 where
  pub until : Instant
  pub time : IsLater nanos now until
  pub last : later ≡ filter (is_elsewhere place) before ++ record { place = place; until = until } ∷ []

-- with this instant it comes last in a list, in which it stands once; or there is no memory for that, and it isn't in the list
abbrev pub IsNotedLast : ℕ → Instant → List Arrival → List Arrival → Type 0
IsNotedLast place until before now = (now ≡ filter (is_elsewhere place) before ++ record { place = place; until = until } ∷ []) ⊎ (now ≡ filter (is_elsewhere place) before)

-- a reply is on its way to it, and not with so many bytes left as before its turn: it took some of them, or is answered since
abbrev pub has_taken : ℕ → Option Conversation → Bool
has_taken was_left it = nat_lt 0 (length (left_of it)) && not (length (left_of it) == was_left)

-- who is there was granted what it asked, and all of its reply is gone
abbrev pub has_its_wish : Option Conversation → Bool
has_its_wish it = is_granted it && (length (left_of it) == 0)

-- what is noted of a client is what it was at before its turn
pub record IsNotedBefore {X : Type 0} (client : Option (ClientAt X)) (it : Option Conversation) (was_ending was_asking : Bool) (was_left : ℕ) : Type 0 where
  pub ending : was_ending ≡ is_over client
  pub asking : was_asking ≡ is_asking it
  pub rest : was_left ≡ length (left_of it)

-- it stays as its turn left it, and so does its connection; or that is over. No other client is changed
pub record IsSettled {X : Type 0} (place : ℕ) (clients later : ClientsState X) (old new : State) : Type 0 where
  pub line : LeavesLine place clients.line later.line
  pub others : OthersKeep place clients later
  pub leaves : MayLeave place old new
  pub here : (IsThere (client_at clients.at place) (client_at later.at place) × (new ≡ old))
      ⊎ ((is_over (client_at later.at place) ≡ true) × HasLeft (client_at clients.at place) place new)

-- ---- who goes for one that comes

abbrev pub is_one_in_line : Option ℕ → LineState → Bool
is_one_in_line None line = false
is_one_in_line (Some place) line = is_in_line place line.standing

-- no seat is vacant, and the client that has asked longest stands in line
abbrev pub is_full : {X : Type 0} → State → ClientsState X → Bool
is_full s clients = (length clients.vacant == 0) && is_one_in_line (first_that (asks s) clients.served) clients.line

-- nobody goes; or it is the client that has asked longest, and that doesn't stand in line
abbrev pub LongestGoes : {X : Type 0} → ClientsState X → ClientsState X → State → State → Type 0
LongestGoes clients later old new =
    ((later ≡ clients) × (new ≡ old))
    ⊎ ((place : ℕ) × (first_that (asks old) clients.served ≡ Some place) × (is_in_line place clients.line.standing ≡ false) × IsClosed place clients later old new)

-- nobody goes if a seat is vacant; else it is the client that gives its place, if there is one
pub record GivesSeat {X : Type 0} (clients later : ClientsState X) (old new : State) : Type 0 where
  pub vacant : clients.vacant ≢ [] → (later ≡ record clients { vacant = later.vacant }) × (new ≡ old)
  pub none : gives_place old clients.served clients.ending ≡ None → (later ≡ record clients { vacant = later.vacant }) × (new ≡ old)
  pub goes : (place : ℕ) → clients.vacant ≡ [] → gives_place old clients.served clients.ending ≡ Some place → IsClosed place clients later old new

module _ {X : Type 0} (incoming : X → DeviceStand) where
  -- a part of its request is read. It is heard on at once only if that gave bytes; else it is settled by what the read came to
  pub record IsHeard (place : ℕ) (clients later : ClientsState X) (old new : State) (goes_on : Bool) : Type 0 where
    pub called : List (Option (ClientAt X))
    pub state : State
    pub turn : Option Turn
    pub had : HadPartRead incoming place (client_at clients.at place) clients.at called old state turn
    pub gave : goes_on ≡ true → (turn ≡ Some Goes) × (later.at ≡ called) × (new ≡ state)
    pub settled : goes_on ≡ false → IsSettled place (record clients { at = called }) later state new × FollowsTurn turn (client_at later.at place)
    pub full : goes_on ≡ false → turn ≡ Some Full → ComesLast place clients.short later.short later.at

-- ---- calls

-- none is called after it in a round: nobody stood in the line, or the one who was called doesn't ask any more
abbrev pub is_last_call : Option ℕ → State → Bool
is_last_call None s = true
is_last_call (Some place) s = not (is_asking (at s place))

module _ {X : Type 0} (incoming outgoing : X → DeviceStand) (room : ℕ) where
  -- it is called and leaves the line, has its turn, and is settled by what that came to. Nobody else is served
  pub record IsServed (place : ℕ) (clients later : ClientsState X) (old new : State) : Type 0 where
    pub called : List (Option (ClientAt X))
    pub state : State
    pub turn : Option Turn
    pub had : HadTurn incoming outgoing room place (client_at clients.at place) clients.at called old state turn
    pub others : OthersStay place old state
    pub settled : IsSettled place (record clients { at = called; line = after calls clients.line }) later state new
    pub follows : FollowsTurn turn (client_at later.at place)

  -- it has a turn that is no call, and is settled by what that came to. Nobody else is served
  pub record IsServedAtOnce (place : ℕ) (clients later : ClientsState X) (old new : State) : Type 0 where
    pub called : List (Option (ClientAt X))
    pub state : State
    pub turn : Option Turn
    pub had : HadTurn incoming outgoing room place (client_at clients.at place) clients.at called old state turn
    pub others : OthersStay place old state
    pub settled : IsSettled place (record clients { at = called }) later state new
    pub follows : FollowsTurn turn (client_at later.at place)

  abbrev pub IsServedIfAny : Option ℕ → ClientsState X → ClientsState X → State → State → Type 0
  IsServedIfAny None clients later old new = (later ≡ clients) × (new ≡ old)
  IsServedIfAny (Some place) clients later old new = IsServed place clients later old new

  -- the one whose turn it is of those that stand in line is served, if one does
  pub record NextIsServed (clients later : ClientsState X) (old new : State) : Type 0 where
    pub served : IsServedIfAny (place_of (next clients.line)) clients later old new

  -- so many are called one after the other, and each asks still
  unfoldable pub AskStill : ℕ → ClientsState X → ClientsState X → State → State → Type 0
  AskStill zero clients later old new = (later ≡ clients) × (new ≡ old)
  AskStill (suc n) clients later old new =
      (before : ClientsState X) × (state : State) × AskStill n clients before old state × NextIsServed before later state new × (is_last_call (place_of (next before.line)) new ≡ false)

  pub record AllAskStill (clients later : ClientsState X) (old new : State) : Type 0 where
    pub count : ℕ
    pub are : AskStill count clients later old new

  -- some are called one after the other: all but the last ask still
  pub record LineIsServed (clients later : ClientsState X) (old new : State) : Type 0 where
    pub before : ClientsState X
    pub state : State
    pub ask : AllAskStill clients before old state
    pub last : ((later ≡ before) × (new ≡ state)) ⊎ NextIsServed before later state new
