-- What was read of a request.
use Rattle.std.specs.Prelude.{◌≡◌, ℕ, List, drop, length, IfSome, IsSomeAnd}
use Rattle.std.specs.Io.KnownBytes.{Consumes, IsAtEnd}
use Rattle.byte_streams.specs.Devices.{next_count}
use Rattle.byte_streams.specs.Stands.{SourceStand}
use Rattle.httparse.specs.Grammar.{RequestHead, print_request}
use Rattle.http_messages.specs.declared.head.Head.{Head}
use Rattle.http_messages.specs.declared.receiving.Asked.{Asked}
use Rattle.http_messages.specs.declared.receiving.Asked.TheVariants as asked
use Rattle.http_messages.specs.Requests.{BeginsWith, Asks, IsRefusedFor, IsUnfinished, framing_said}

abbrev pub IsAsked : List ℕ → Asked → Type 0
IsAsked bytes (asked.Request request) = Asks bytes request
IsAsked bytes (asked.Refused refusal) = IsRefusedFor bytes refusal

-- the bytes that a source holds are known, and they ask this
abbrev pub SourceHolds : SourceStand → Asked → Type 0
SourceHolds source asked = IsSomeAnd source.remaining (λ bytes. IsAsked bytes asked)

-- the bytes that a source holds, if they are known, are a front of what may still be a request
abbrev pub HoldsFront : SourceStand → Type 0
HoldsFront source = IfSome source.remaining IsUnfinished

-- the source gave these bytes, and they ask this
pub record HasAsked (old new : SourceStand) (asked : Asked) : Type 0 where
  pub bytes : List ℕ
  pub given : Consumes old.remaining new.remaining bytes
  pub asks : IsAsked bytes asked

-- the source gave bytes that are no whole request
pub record HasGivenPart (old new : SourceStand) : Type 0 where
  pub bytes : List ℕ
  pub given : Consumes old.remaining new.remaining bytes
  pub unfinished : IsUnfinished bytes

-- and has no more
pub record SourceHasEnded (old new : SourceStand) : Type 0 where
  pub part : HasGivenPart old new
  pub ended : IsAtEnd new.remaining

-- the last read alone made it whole: what had been read before is a front of what may still be a request
pub record IsWholeAtLastRead {S : Type 0} (stand : S → SourceStand) (old new : S) : Type 0 where
  pub before_last : S
  pub part : HasGivenPart (stand old) (stand before_last)
  pub last : (stand new).called ≡ next_count (stand before_last).called

-- ---- on the way

-- the bytes begin with this head, as it is kept
pub record IsHeadAt (bytes : List ℕ) (head : Head) : Type 0 where
  pub h : RequestHead
  pub begins : BeginsWith bytes h (drop head.len bytes)
  pub len : head.len ≡ length (print_request h)
  pub method : head.method ≡ h.method
  pub target : head.target ≡ h.target
  pub framing : head.framing ≡ framing_said h
