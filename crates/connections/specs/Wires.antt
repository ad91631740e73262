-- What went through a client's socket.
use Rattle.std.specs.Prelude.{◌≡◌, ℕ, ◌<◌, ◌≤◌, ◌⊎◌, List, length, Option}
use Rattle.std.specs.Io.KnownBytes.{Keeps, Consumes, Appends, IsAtEnd}
use Rattle.http_edge.specs.declared.serving.EdgeFault.{EdgeFault}
use Rattle.http_edge.specs.declared.serving.EdgeFault.TheVariants as ends
use Rattle.connections.specs.declared.conversation.Conversation.{Conversation}
use Rattle.connections.specs.declared.devices.Passage.{Passage}
use Rattle.connections.specs.declared.devices.Passage.TheVariants.{Bytes, HasFailed}
use Rattle.connections.specs.declared.wire.Moved.{Moved}
use Rattle.connections.specs.declared.wire.Moved.TheVariants.{Some, Waits, Nothing, Full, Failed}
use Rattle.connections.specs.Devices.{DeviceStand, one_call}
use Rattle.connections.specs.Conversing.{HasTooManyAt}
use Rattle.connections.specs.Limits.{most_written}
use Rattle.connections.specs.Table.{State, request_bytes, reply_bytes, Happens}

-- ---- one call

-- one read gave this piece
pub record GavePiece (old new : DeviceStand) (piece : List ℕ) : Type 0 where
  pub given : Consumes old.bytes new.bytes piece
  pub some : 0 < length piece
  pub one : new.calls ≡ one_call (Bytes (length piece)) old.calls

-- one write took this piece
pub record TookPiece (old new : DeviceStand) (piece : List ℕ) : Type 0 where
  pub taken : Appends old.bytes new.bytes piece
  pub some : 0 < length piece
  pub one : new.calls ≡ one_call (Bytes (length piece)) old.calls

-- one call came to this, and moved nothing
pub record MovedNothing (passage : Passage) (old new : DeviceStand) : Type 0 where
  pub kept : Keeps old.bytes new.bytes
  pub one : new.calls ≡ one_call passage old.calls

-- ---- hearing

-- the reader gave a piece, and it is what the client at this place said
pub record HasHeard (reader_old reader_new : DeviceStand) (place : ℕ) (old new : State) : Type 0 where
  pub piece : List ℕ
  pub gave_it : GavePiece reader_old reader_new piece
  pub happens : Happens old (request_bytes place piece) new

-- the client at this place said at most so many bytes
pub record HasHeardAtMost (most : ℕ) (place : ℕ) (old new : State) : Type 0 where
  pub piece : List ℕ
  pub short : length piece ≤ most
  pub happens : Happens old (request_bytes place piece) new

-- why a client goes that was heard: the read failed; or it gave nothing, which is the client's end; or the request isn't whole
-- with this piece, which is the last of the most; or an allocation failed
abbrev pub GoesHeard : EdgeFault → DeviceStand → DeviceStand → Option Conversation → Type 0
GoesHeard ends.Read old new it = MovedNothing HasFailed old new
GoesHeard ends.Ended old new it = MovedNothing (Bytes 0) old new × IsAtEnd new.bytes
GoesHeard ends.TooManyReads old new it = (piece : List ℕ) × GavePiece old new piece × HasTooManyAt it piece
GoesHeard ends.OutOfMemory old new it = (piece : List ℕ) × GavePiece old new piece
GoesHeard ends.Write old new it = ⊥

-- ---- saying

-- the writer took a piece, which isn't too long, and it is what the client at this place was sent of its reply
pub record HasSaid (writer_old writer_new : DeviceStand) (place : ℕ) (old new : State) : Type 0 where
  pub piece : List ℕ
  pub took_it : TookPiece writer_old writer_new piece
  pub short : length piece ≤ most_written
  pub happens : Happens old (reply_bytes place piece) new

-- why a client goes that was told of its reply: the write failed, or took nothing
abbrev pub GoesTold : EdgeFault → DeviceStand → DeviceStand → Type 0
GoesTold ends.Write old new = MovedNothing HasFailed old new ⊎ MovedNothing (Bytes 0) old new
GoesTold ends.Read old new = ⊥
GoesTold ends.Ended old new = ⊥
GoesTold ends.TooManyReads old new = ⊥
GoesTold ends.OutOfMemory old new = ⊥

-- ---- what a call came to

-- if it failed, this is so of its fault
abbrev pub IfFailed : Moved → (EdgeFault → Type 0) → Type 0
IfFailed (Failed fault) P = P fault
IfFailed Some P = Unit {0}
IfFailed Waits P = Unit {0}
IfFailed Nothing P = Unit {0}
IfFailed Full P = Unit {0}

abbrev pub IsFailed : Moved → Type 0
IsFailed Some = ⊥
IsFailed Waits = ⊥
IsFailed Nothing = ⊥
IsFailed Full = ⊥
IsFailed (Failed fault) = Unit {0}
