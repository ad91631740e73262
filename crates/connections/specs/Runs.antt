-- Runs of any number of connections: what happens one after another, and what each one is answered.
use Rattle.std.specs.Prelude.{◌≡◌, ℕ, ◌+◌, ◌==◌, List, [], ◌∷◌, ◌++◌, Option, Some, None, if◌then◌else◌, ◌⊎◌}
use Rattle.http_messages.specs.Requests.{IsUnfinished}
use Rattle.http_edge.specs.Edges.{NamedChannel}
use Rattle.http_edge.specs.Served.{IsServed}
use Rattle.connections.specs.declared.conversation.Conversation.{Conversation}
use Rattle.connections.specs.declared.conversation.Conversation.TheVariants.{Asking, Answering}
use Rattle.connections.specs.Table.{State, at, ClientEvent, arrival, request_bytes, reply_bytes, departure, Happens}

-- ---- what happened at a place, of all that happened, the newest first

-- how many clients came there
abbrev pub visits : ℕ → List ClientEvent → ℕ
visits place [] = 0
visits place (arrival k ∷ before) = if k == place then visits place before + 1 else visits place before
visits place (request_bytes k piece ∷ before) = visits place before
visits place (reply_bytes k bytes ∷ before) = visits place before
visits place (departure k ∷ before) = visits place before

-- what the last of them said since it came
abbrev pub said : ℕ → List ClientEvent → List ℕ
said place [] = []
said place (arrival k ∷ before) = if k == place then [] else said place before
said place (request_bytes k piece ∷ before) = if k == place then said place before ++ piece else said place before
said place (reply_bytes k bytes ∷ before) = said place before
said place (departure k ∷ before) = said place before

-- what it was sent of its reply
abbrev pub was_sent : ℕ → List ClientEvent → List ℕ
was_sent place [] = []
was_sent place (arrival k ∷ before) = if k == place then [] else was_sent place before
was_sent place (request_bytes k piece ∷ before) = was_sent place before
was_sent place (reply_bytes k bytes ∷ before) = if k == place then was_sent place before ++ bytes else was_sent place before
was_sent place (departure k ∷ before) = was_sent place before

-- ---- what is served

-- a connection that was served: its place, which client there it was, what it had said, and the text of its reply
pub record Service : Type 0 where
  pub place : ℕ
  pub visit : ℕ
  pub bytes : List ℕ
  pub text : List ℕ
  pub status : ℕ

-- they are served one after the other, the newest first, each as `serve` serves a connection that says these bytes
abbrev pub InTurn : List NamedChannel → List Service → List NamedChannel → Type 0
InTurn first [] last = last ≡ first
InTurn first (s ∷ before) last = (middle : List NamedChannel) × InTurn first before middle × IsServed s.bytes middle last s.text s.status

-- it is what this client has said with this piece, which was no whole request before
pub record IsNewly (k : ℕ) (piece : List ℕ) (before : List ClientEvent) (s : Service) : Type 0 where
  pub place : s.place ≡ k
  pub visit : s.visit ≡ visits k before
  pub bytes : s.bytes ≡ said k before ++ piece
  pub unfinished : IsUnfinished (said k before)

-- at most one is served at each piece that comes
abbrev pub AreOf : List ClientEvent → List Service → Type 0
AreOf [] services = services ≡ []
AreOf (arrival k ∷ before) services = AreOf before services
AreOf (reply_bytes k bytes ∷ before) services = AreOf before services
AreOf (departure k ∷ before) services = AreOf before services
AreOf (request_bytes k piece ∷ before) [] = AreOf before []
AreOf (request_bytes k piece ∷ before) (s ∷ earlier) = AreOf before (s ∷ earlier) ⊎ (IsNewly k piece before s × AreOf before earlier)

abbrev pub IsOneOf : Service → List Service → Type 0
IsOneOf s [] = ⊥
IsOneOf s (one ∷ more) = (s ≡ one) ⊎ IsOneOf s more

-- ---- how a connection stands

-- it said nothing that isn't a part of a request, and was sent nothing
pub record IsAsking (place : ℕ) (events : List ClientEvent) (bytes : List ℕ) : Type 0 where
  pub all : bytes ≡ said place events
  pub unfinished : IsUnfinished bytes
  pub unsent : was_sent place events ≡ []

-- it was served by what it said first itself: the text of its reply is what it was sent, and then what is left
pub record HasReply (place : ℕ) (events : List ClientEvent) (services : List Service) (rest : List ℕ) (status : ℕ) : Type 0 where
  pub service : Service
  pub one : IsOneOf service services
  pub place_is : service.place ≡ place
  pub visit_is : service.visit ≡ visits place events
  pub more : List ℕ
  pub said_is : said place events ≡ service.bytes ++ more
  pub status_is : status ≡ service.status
  pub text_is : service.text ≡ was_sent place events ++ rest

abbrev pub ConversationStandsAt : ℕ → List ClientEvent → List Service → Option Conversation → Type 0
ConversationStandsAt place events services None = Unit {0}
ConversationStandsAt place events services (Some (Asking bytes pieces)) = IsAsking place events bytes
ConversationStandsAt place events services (Some (Answering rest status)) = HasReply place events services rest status

-- ---- runs

abbrev pub EventsLeadTo : State → List ClientEvent → State → Type 0
EventsLeadTo first [] last = last ≡ first
EventsLeadTo first (e ∷ before) last = (middle : State) × EventsLeadTo first before middle × Happens middle e last

-- things that happen at places lead from one to the other
pub record HasRun (old new : State) : Type 0 where
  pub events : List ClientEvent
  pub run : EventsLeadTo old events new

-- it is so of each front of a run and of what this led to
abbrev pub AtEachFront : (List ClientEvent → State → Type 0) → (first : State) (events : List ClientEvent) (last : State) → EventsLeadTo first events last → Type 0
AtEachFront P first [] last run = P [] last
AtEachFront P first (e ∷ before) last run = AtEachFront P first before run.0 run.1 × P (e ∷ before) last

-- each connection stands as these services say
abbrev pub AreServed : List Service → List ClientEvent → State → Type 0
AreServed services events s = (place : ℕ) → ConversationStandsAt place events services (at s place)

-- all that was served, in the order in which it became whole; and each connection by itself at each front of the run, so also who
-- has gone since
pub record IsServedRun (first : State) (events : List ClientEvent) (last : State) (run : EventsLeadTo first events last) : Type 0 where
  pub services : List Service
  pub turns : InTurn first.edge services last.edge
  pub pieces : AreOf events services
  pub each : AtEachFront (AreServed services) first events last run

-- whatever happens, from no connections on
abbrev pub ConnectionsAreServed : Type 0
ConnectionsAreServed =
    (first last : State) (events : List ClientEvent) → ((place : ℕ) → at first place ≡ None) → (run : EventsLeadTo first events last) → IsServedRun first events last run
