-- What a call may say of its source and its sink.
use Rattle.std.specs.Prelude.{◌≢◌, ℕ, ◌+◌, ◌≤◌, Result, OnOk, IfErr, IsErrOf}
use Rattle.byte_streams.specs.Devices.{FailedAtLast, NoneFailed, CalledAll}
use Rattle.byte_streams.specs.Stands.{SourceStand, SinkStand, GaveMany, GaveAtEach}

-- how many reads an input, or a request, may take
abbrev pub most_reads : ℕ
most_reads = 65536

-- a source is blamed exactly if a read failed, after which it isn't read; it has too many reads only if each of the
-- most gave bytes
pub record IsFairToSource {A E : Type 0} (read too_many_reads : E) (result : Result A E) (old new : SourceStand) : Type 0 where
  pub blamed : IsErrOf result read → FailedAtLast old.failed new.failed
  pub unfailed : OnOk result (NoneFailed old.failed new.failed)
  pub told : IfErr result (λ e. e ≢ read → NoneFailed old.failed new.failed)
  pub too_many : IsErrOf result too_many_reads → GaveAtEach old new most_reads
  pub calls : new.called ≤ old.called + most_reads

-- each read but the last gave a byte or more: if the last told the end of the bytes, no read followed it
pub record GaveAtEachButLast (old new : SourceStand) : Type 0 where
  pub count : ℕ
  pub reads : CalledAll old.called new.called (count + 1)
  pub bytes : GaveMany old new count

-- a sink is blamed exactly if a write failed or took nothing, after which nothing is written
pub record IsFairToSink {A E : Type 0} (write : E) (result : Result A E) (old new : SinkStand) : Type 0 where
  pub blamed : IsErrOf result write → FailedAtLast old.failed new.failed
  pub unfailed : OnOk result (NoneFailed old.failed new.failed)
  pub told : IfErr result (λ e. e ≢ write → NoneFailed old.failed new.failed)
