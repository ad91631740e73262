-- An edge, and the requests that it stands for.
use Rattle.std.specs.Prelude.{◌≡◌, ℕ, ◌⊎◌, List, [], ◌∷◌, Result, Ok, Err, String, string_bytes}
use Rattle.live_channel.specs.Channel.{Channel}
use Rattle.http_messages.specs.declared.message.Request.{Request}
use Rattle.http_messages.specs.declared.message.Reply.{Reply}
use Rattle.http_messages.specs.Replies.{bare}
use Rattle.http_edge.specs.Channels.{IsGiven}
use Rattle.http_edge.specs.Table.{Table, Turn, turn, table_of}

-- a channel and its name
pub record NamedChannel : Type 0 where
  pub name : List ℕ
  pub channel : Channel

abbrev pub named_channel : {A : Type 0} → String A × Channel → NamedChannel
named_channel entry = record { name = string_bytes entry.0; channel = entry.1 }

-- each channel stands for what the table says that it was given
abbrev pub AreGiven : List NamedChannel → Table → Type 0
AreGiven [] [] = Unit {0}
AreGiven (kept ∷ later) (entry ∷ others) = (kept.name ≡ entry.name) × IsGiven kept.channel entry.given × AreGiven later others
AreGiven [] (entry ∷ others) = ⊥
AreGiven (kept ∷ later) [] = ⊥

-- an edge stands for a list of requests, the newest first
abbrev pub RepresentsRequests : List NamedChannel → List Request → Type 0
RepresentsRequests kept requests = AreGiven kept (table_of requests)

-- it stands for some list of requests
abbrev pub RepresentsSome : List NamedChannel → Type 0
RepresentsSome kept = (requests : List Request) × RepresentsRequests kept requests

-- the reply of this turn, or 503 for a failed allocation, which leaves the table
abbrev pub TakesTurn : Turn → Table → Reply → List NamedChannel → Type 0
TakesTurn t table reply new = ((reply ≡ t.reply) × AreGiven new t.table) ⊎ ((reply ≡ bare 503) × AreGiven new table)

-- whatever requests it stood for, the reply is the one owed and the edge stands for this request too; or it is 503 for a failed
-- allocation, and the edge stands for what it did
abbrev pub AnswersRequest : List NamedChannel → Request → Reply → List NamedChannel → Type 0
AnswersRequest old request reply new =
    (requests : List Request) → RepresentsRequests old requests → TakesTurn (turn (table_of requests) request) (table_of requests) reply new

-- ---- on the way

-- the reply of this turn; a failed allocation leaves the table
abbrev pub TakenTurn : {E : Type 0} → Turn → Table → Result Reply E → List NamedChannel → Type 0
TakenTurn t table (Ok reply) new = (reply ≡ t.reply) × AreGiven new t.table
TakenTurn t table (Err e) new = AreGiven new table

-- whatever table they stood for, this turn of it was taken
abbrev pub TakesTurnOf : {E : Type 0} → (Table → Turn) → List NamedChannel → Result Reply E → List NamedChannel → Type 0
TakesTurnOf turn_of old result new = (table : Table) → AreGiven old table → TakenTurn (turn_of table) table result new
