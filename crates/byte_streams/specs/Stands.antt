-- How a source and a sink stand, and what went through them during a call.
use Rattle.std.specs.Prelude.{ℕ, ◌≤◌, List, length, Option, ◌⊎◌}
use Rattle.std.specs.Io.KnownBytes.{Consumes, IsAtEnd, Appends}
use Rattle.byte_streams.specs.Devices.{Failures, FailedAtLast, NoneFailed, CalledAll}
use Rattle.byte_streams.specs.Handed.{TookFront}

-- ---- sources

-- how a source stands: the bytes that it still has, if they are known, its calls and its failures
pub record SourceStand : Type 0 where
  pub remaining : Option (List ℕ)
  pub called : ℕ
  pub failed : Failures

-- the source gave this input, to its end
pub record GaveAll (old new : SourceStand) (input : List ℕ) : Type 0 where
  pub given : Consumes old.remaining new.remaining input
  pub ended : IsAtEnd new.remaining

-- the source gave so many bytes or more
pub record GaveMany (old new : SourceStand) (least : ℕ) : Type 0 where
  pub input : List ℕ
  pub given : Consumes old.remaining new.remaining input
  pub many : least ≤ length input

-- there were so many reads, each of which gave a byte or more
pub record GaveAtEach (old new : SourceStand) (count : ℕ) : Type 0 where
  pub reads : CalledAll old.called new.called count
  pub bytes : GaveMany old new count

-- ---- sinks

-- how a sink stands: the bytes that it has taken, if they are known, and its failures
pub record SinkStand : Type 0 where
  pub contents : Option (List ℕ)
  pub failed : Failures

-- it took these bytes
pub record TookAll (old new : SinkStand) (bytes : List ℕ) : Type 0 where
  pub whole : Appends old.contents new.contents bytes
  pub failures : NoneFailed old.failed new.failed

-- it took a front of these bytes, and failed
pub record FailedAfterFront (old new : SinkStand) (bytes : List ℕ) : Type 0 where
  pub front : TookFront old.contents new.contents bytes
  pub failed : FailedAtLast old.failed new.failed

-- it took these bytes, or a front of them if it failed
abbrev pub WasHanded : SinkStand → SinkStand → List ℕ → Type 0
WasHanded old new bytes = TookAll old new bytes ⊎ FailedAfterFront old new bytes
