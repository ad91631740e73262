-- The clients of a server, by the orders in which they came.
use Rattle.std.specs.Prelude.{ℕ, Bool, false, List, nat_lt, Option, Some, None}
use Rattle.http_edge.specs.declared.serving.EdgeFault.{EdgeFault}
use Rattle.http_edge.specs.declared.serving.EdgeFault.TheVariants.{Read, Write}
use Rattle.connections.specs.declared.arrivals.Arrival.{Arrival}
use Rattle.connections.specs.declared.conversation.Conversation.{Conversation}
use Rattle.connections.specs.declared.conversation.Conversation.TheVariants.{Asking, Answering}
use Rattle.connections.specs.Clients.{ClientAt}
use Rattle.connections.specs.Lines.{LineState}

-- those that are there, by their places, and the places of the vacant seats; those that are served, whose end is awaited, of which
-- something came, that took bytes, and whose bytes have no room, each in their order; and the line
pub record ClientsState (X : Type 0) : Type 0 where
  pub at : List (Option (ClientAt X))
  pub vacant : List ℕ
  pub served : List Arrival
  pub ending : List Arrival
  pub heard : List Arrival
  pub took : List Arrival
  pub short : List Arrival
  pub line : LineState

-- the reply of who is there has a status below 300 (RFC 9110, section 15)
abbrev pub is_granted : Option Conversation → Bool
is_granted None = false
is_granted (Some (Asking bytes pieces)) = false
is_granted (Some (Answering rest status)) = nat_lt status 300

-- what is told of who is given up there: its request isn't whole, or its reply isn't gone
abbrev pub fault_of_leaver : Option Conversation → Option EdgeFault
fault_of_leaver None = None
fault_of_leaver (Some (Asking bytes pieces)) = Some Read
fault_of_leaver (Some (Answering rest status)) = Some Write
