-- What a connection came to.
use Rattle.std.specs.Prelude.{◌≡◌, ℕ, ◌⊎◌, Bool, true, List}
use Rattle.std.specs.Io.KnownBytes.{Consumes}
use Rattle.byte_streams.specs.Stands.{SourceStand, SinkStand, TookAll, FailedAfterFront}
use Rattle.http_messages.specs.declared.message.Request.{Request}
use Rattle.http_messages.specs.declared.message.Reply.{Reply}
use Rattle.http_messages.specs.declared.refusal.Refusal.{Refusal}
use Rattle.http_messages.specs.Requests.{Asks, IsRefusedFor}
use Rattle.http_messages.specs.Replies.{refusal_reply, refusal_status, sends_body, text_sent}
use Rattle.http_messages.specs.declared.receiving.Asked.{Asked}
use Rattle.http_messages.specs.declared.receiving.Asked.TheVariants as asked
use Rattle.http_messages.specs.declared.receiving.ReceiveFault.{ReceiveFault}
use Rattle.http_messages.specs.declared.receiving.ReceiveFault.TheVariants as receiving
use Rattle.http_edge.specs.declared.serving.EdgeFault.{EdgeFault}
use Rattle.http_edge.specs.declared.serving.EdgeFault.TheVariants.{Read, TooManyReads, Ended, OutOfMemory}
use Rattle.http_edge.specs.Table.{reads_playlist}
use Rattle.http_edge.specs.Edges.{NamedChannel, AnswersRequest}

-- a fault of reading a request
abbrev pub edge_fault : ReceiveFault → EdgeFault
edge_fault receiving.Read = Read
edge_fault receiving.TooManyReads = TooManyReads
edge_fault receiving.Ended = Ended
edge_fault receiving.OutOfMemory = OutOfMemory

-- a request is answered as owed, with no body for HEAD; a refusal is told, and leaves the edge
abbrev pub IsReplyTo : Asked → List NamedChannel → List NamedChannel → Reply → Bool → Type 0
IsReplyTo (asked.Request request) old new reply with_body = AnswersRequest old request reply new × (with_body ≡ sends_body request.method)
IsReplyTo (asked.Refused refusal) old new reply with_body = (new ≡ old) × (reply ≡ refusal_reply refusal) × (with_body ≡ true)

-- the bytes begin with a whole request, and this is the text of its reply
pub record IsAnswered (bytes : List ℕ) (old new : List NamedChannel) (text : List ℕ) (status : ℕ) : Type 0 where
  pub request : Request
  pub reply : Reply
  pub asks : Asks bytes request
  pub answers : AnswersRequest old request reply new
  pub text_is : text ≡ text_sent (sends_body request.method) reply
  pub status_is : status ≡ reply.status

-- they are refused, and this is the text of that reply
pub record IsTurnedAway (bytes : List ℕ) (old new : List NamedChannel) (text : List ℕ) (status : ℕ) : Type 0 where
  pub refusal : Refusal
  pub refused : IsRefusedFor bytes refusal
  pub kept : new ≡ old
  pub text_is : text ≡ text_sent true (refusal_reply refusal)
  pub status_is : status ≡ refusal_status refusal

abbrev pub IsServed : List ℕ → List NamedChannel → List NamedChannel → List ℕ → ℕ → Type 0
IsServed bytes old new text status = IsAnswered bytes old new text status ⊎ IsTurnedAway bytes old new text status

-- they begin with a whole request that reads the playlist that a channel wrote last
pub record BeginsWithRead (bytes : List ℕ) : Type 0 where
  pub request : Request
  pub asks : Asks bytes request
  pub reads : reads_playlist request ≡ true

-- the source gave these bytes, and the sink took the text
pub record HasServed (source_old source_new : SourceStand) (sink_old sink_new : SinkStand) (old new : List NamedChannel) (status : ℕ) : Type 0 where
  pub bytes : List ℕ
  pub text : List ℕ
  pub given : Consumes source_old.remaining source_new.remaining bytes
  pub served : IsServed bytes old new text status
  pub written : TookAll sink_old sink_new text

-- the same, but the sink failed after a front of the text
pub record HasServedFront (source_old source_new : SourceStand) (sink_old sink_new : SinkStand) (old new : List NamedChannel) : Type 0 where
  pub bytes : List ℕ
  pub text : List ℕ
  pub status : ℕ
  pub given : Consumes source_old.remaining source_new.remaining bytes
  pub served : IsServed bytes old new text status
  pub written : FailedAfterFront sink_old sink_new text

-- ---- what is answered of all that a source holds

-- the request is answered as owed, and the sink took this of the text of its reply
pub record HasAnswered (Took : List ℕ → Type 0) (old new : List NamedChannel) (request : Request) (status : ℕ) : Type 0 where
  pub reply : Reply
  pub answers : AnswersRequest old request reply new
  pub status_is : status ≡ reply.status
  pub written : Took (text_sent (sends_body request.method) reply)

-- it is refused, the edge is as it was, and the sink took this of the text of the refusal
pub record HasTurnedAway (Took : List ℕ → Type 0) (old new : List NamedChannel) (refusal : Refusal) (status : ℕ) : Type 0 where
  pub kept : new ≡ old
  pub status_is : status ≡ refusal_status refusal
  pub written : Took (text_sent true (refusal_reply refusal))

abbrev pub HasReplied : (List ℕ → Type 0) → List NamedChannel → List NamedChannel → Asked → ℕ → Type 0
HasReplied Took old new (asked.Request request) status = HasAnswered Took old new request status
HasReplied Took old new (asked.Refused refusal) status = HasTurnedAway Took old new refusal status

-- the reply's text is written as a whole
abbrev pub HasRepliedWhole : SinkStand → SinkStand → List NamedChannel → List NamedChannel → Asked → ℕ → Type 0
HasRepliedWhole sink_old sink_new = HasReplied (TookAll sink_old sink_new)

-- a front of it is, and then the sink failed
abbrev pub HasRepliedFront : SinkStand → SinkStand → List NamedChannel → List NamedChannel → Asked → Type 0
HasRepliedFront sink_old sink_new old new it = (status : ℕ) × HasReplied (FailedAfterFront sink_old sink_new) old new it status
