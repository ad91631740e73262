-- The connections by their places, and what happens to them.
use Rattle.std.specs.Prelude.{◌≡◌, ◌≢◌, ℕ, ◌+◌, nat_le, Bool, ◌||◌, List, [], ◌++◌, length, slice_index_or, Option, Some, None, sum_by}
use Rattle.std.specs.List.{list_all}
use Rattle.http_edge.specs.Edges.{NamedChannel}
use Rattle.connections.specs.declared.conversation.Conversation.{Conversation}
use Rattle.connections.specs.declared.conversation.Conversation.TheVariants.{Asking, Answering}
use Rattle.connections.specs.declared.table.Phase.{Phase}
use Rattle.connections.specs.declared.table.Phase.TheVariants.{Vacant}
use Rattle.connections.specs.declared.table.Phase.TheVariants as phase
use Rattle.connections.specs.Conversing.{Goes}
use Rattle.connections.specs.Limits.{most_shared}

-- the edge, and each place: nobody, or a connection
pub record State : Type 0 where
  pub edge : List NamedChannel
  pub places : List (Option Conversation)

abbrev pub at : State → ℕ → Option Conversation
at s place = slice_index_or s.places place None

-- ---- what is held

-- the bytes that a connection has said and that aren't applied yet
abbrev pub held_of : Option Conversation → ℕ
held_of None = 0
held_of (Some (Asking bytes pieces)) = length bytes
held_of (Some (Answering rest status)) = 0

abbrev pub held_in : List (Option Conversation) → ℕ
held_in places = sum_by held_of places

-- of no other connection more are held than of this one
abbrev pub holds_most : State → ℕ → Bool
holds_most s place = list_all (λ it. nat_le (held_of it) (held_of (at s place))) s.places

-- so many bytes more of a request that isn't whole are taken: those of the connection that is nearest its end, and of the others as
-- long as they leave it room
abbrev pub has_room : State → ℕ → ℕ → Bool
has_room s place count = nat_le (held_in s.places + count) most_shared || holds_most s place

-- what was read of a request that isn't whole
abbrev pub part_of_request : Option Conversation → List ℕ
part_of_request None = []
part_of_request (Some (Asking bytes pieces)) = bytes
part_of_request (Some (Answering rest status)) = []

-- what is left of a connection's reply
abbrev pub left_of : Option Conversation → List ℕ
left_of None = []
left_of (Some (Asking bytes pieces)) = []
left_of (Some (Answering rest status)) = rest

abbrev pub phase_of : Option Conversation → Phase
phase_of None = Vacant
phase_of (Some (Asking bytes pieces)) = phase.Asking
phase_of (Some (Answering rest status)) = phase.Answering status

-- ---- what happens

pub data ClientEvent : Type 0 where
  -- a client came
  arrival : ℕ → ClientEvent
  -- it gave its next bytes
  request_bytes : ℕ → List ℕ → ClientEvent
  -- it was sent these bytes of its reply
  reply_bytes : ℕ → List ℕ → ClientEvent
  -- it went, or was given up
  departure : ℕ → ClientEvent

-- only this place is another, and it is this
pub record PutsAtPlace (old new : State) (place : ℕ) (it : Option Conversation) : Type 0 where
  pub here : at new place ≡ it
  pub others : (other : ℕ) → other ≢ place → at new other ≡ at old other
  pub count : length new.places ≡ length old.places

-- if there is a connection it goes on
abbrev pub ConversationGoesOn : Option Conversation → State → ℕ → List ℕ → State → Type 0
ConversationGoesOn None old place piece new = PutsAtPlace old new place None × (new.edge ≡ old.edge)
ConversationGoesOn (Some conversation) old place piece new =
    (after : Conversation) × Goes conversation piece old.edge new.edge after × PutsAtPlace old new place (Some after)

-- this is left of the reply
abbrev pub with_left : List ℕ → Option Conversation → Option Conversation
with_left rest (Some (Answering before status)) = Some (Answering rest status)
with_left rest None = None
with_left rest (Some (Asking bytes pieces)) = Some (Asking bytes pieces)

abbrev pub Happens : State → ClientEvent → State → Type 0
Happens old (arrival place) new = PutsAtPlace old new place (Some (Asking [] 0)) × (new.edge ≡ old.edge)
Happens old (request_bytes place piece) new = ConversationGoesOn (at old place) old place piece new
Happens old (reply_bytes place bytes) new =
    (rest : List ℕ) × (left_of (at old place) ≡ bytes ++ rest) × PutsAtPlace old new place (with_left rest (at old place)) × (new.edge ≡ old.edge)
Happens old (departure place) new = PutsAtPlace old new place None × (new.edge ≡ old.edge)
