-- What clients are answered, whatever the clients of other channels ask.
use Rattle.std.specs.Prelude.{◌≡◌, ℕ, ◌⊎◌, true, List, [], ◌∷◌, None}
use Rattle.http_messages.specs.declared.refusal.Refusal.{Refusal}
use Rattle.http_messages.specs.Requests.{Asks, IsRefusedFor}
use Rattle.http_messages.specs.Replies.{refusal_reply, sends_body, text_sent}
use Rattle.http_edge.specs.Edges.{RepresentsRequests}
use Rattle.http_edge.specs.Isolation.{Exchange, IsIsolatedIn}
use Rattle.connections.specs.Table.{State, at, ClientEvent}
use Rattle.connections.specs.Runs.{Service, AreOf, AreServed, AtEachFront, EventsLeadTo}

-- the service's bytes ask this request, and its text is that of this reply
pub record IsExchange (s : Service) (e : Exchange) : Type 0 where
  pub asks : Asks s.bytes e.request
  pub text_is : s.text ≡ text_sent (sends_body e.request.method) e.reply

-- its bytes are no request that can be answered, and its text says so
pub record IsRefusal (s : Service) : Type 0 where
  pub refusal : Refusal
  pub refused : IsRefusedFor s.bytes refusal
  pub text_is : s.text ≡ text_sent true (refusal_reply refusal)

-- what these services asked and were answered, in the same order; a refused one asked nothing
abbrev pub AreExchanges : List Service → List Exchange → Type 0
AreExchanges [] exchanges = exchanges ≡ []
AreExchanges (s ∷ before) [] = IsRefusal s × AreExchanges before []
AreExchanges (s ∷ before) (e ∷ earlier) = (IsExchange s e × AreExchanges before earlier) ⊎ (IsRefusal s × AreExchanges before (e ∷ earlier))

-- each client is sent the reply to what it said itself, at each front of the run; and on each channel these replies, except 503, are those
-- that the requests on this channel alone are owed, in the order in which they became whole
pub record IsIsolatedRun (first : State) (events : List ClientEvent) (last : State) (run : EventsLeadTo first events last) : Type 0 where
  pub services : List Service
  pub pieces : AreOf events services
  pub each : AtEachFront (AreServed services) first events last run
  pub exchanges : List Exchange
  pub asked : AreExchanges services exchanges
  pub isolated : (name : List ℕ) → IsIsolatedIn name exchanges

-- whatever clients come, say, take and leave, from an edge that stands for no request and nobody there on
abbrev pub ClientsAreIsolated : Type 0
ClientsAreIsolated =
    (first last : State) (events : List ClientEvent) → ((place : ℕ) → at first place ≡ None) → RepresentsRequests first.edge [] → (run : EventsLeadTo first events last)
    → IsIsolatedRun first events last run
