-- What a client's next bytes do.
use Rattle.std.specs.Prelude.{◌≡◌, ℕ, ◌+◌, ◌<◌, ◌≤◌, List, ◌++◌, Option, Some, None}
use Rattle.http_messages.specs.Requests.{IsUnfinished}
use Rattle.byte_streams.specs.Fair.{most_reads}
use Rattle.http_edge.specs.Edges.{NamedChannel}
use Rattle.http_edge.specs.Served.{IsServed}
use Rattle.connections.specs.declared.conversation.Conversation.{Conversation}
use Rattle.connections.specs.declared.conversation.Conversation.TheVariants.{Asking, Answering}

-- the bytes so far are no whole request after fewer pieces than the most, and the edge is as it was; or they are answered as `serve` answers the bytes of a
-- connection, by the very same definition. What comes after the request is passed over
abbrev pub Goes : Conversation → List ℕ → List NamedChannel → List NamedChannel → Conversation → Type 0
Goes (Asking bytes pieces) piece old new (Asking more count) =
    (more ≡ bytes ++ piece) × IsUnfinished (bytes ++ piece) × (count ≡ pieces + 1) × (count < most_reads) × (new ≡ old)
Goes (Asking bytes pieces) piece old new (Answering rest status) = IsServed (bytes ++ piece) old new rest status
Goes (Answering rest status) piece old new after = (after ≡ Answering rest status) × (new ≡ old)

-- this piece is the last of the most, and the request isn't whole
abbrev pub HasTooMany : Conversation → List ℕ → Type 0
HasTooMany (Asking bytes pieces) piece = IsUnfinished (bytes ++ piece) × (most_reads ≤ pieces + 1)
HasTooMany (Answering rest status) piece = ⊥

-- the same of who stands at a place
abbrev pub HasTooManyAt : Option Conversation → List ℕ → Type 0
HasTooManyAt None piece = ⊥
HasTooManyAt (Some conversation) piece = HasTooMany conversation piece
