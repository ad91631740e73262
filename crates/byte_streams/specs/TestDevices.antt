-- Devices for tests: what they hold, and how much a call moves.
use Rattle.std.specs.Prelude.{◌≡◌, ℕ, ◌+◌, ◌-◌, ◌==◌, nat_lt, min, Bool, List, [], drop, length, Some, if◌then◌else◌}
use Rattle.byte_streams.specs.Devices.{next_count, Failures, no_failures, one_more, as_many}
use Rattle.byte_streams.specs.Stands.{SourceStand, SinkStand}

-- a source: all of its bytes, how many it gave, the most that a read gives, the place that no read
-- crosses, the number of the read that fails, and its counters
pub record SourceState : Type 0 where
  pub bytes : List ℕ
  pub place : ℕ
  pub most : ℕ
  pub cut : ℕ
  pub fail : ℕ
  pub failures : Failures
  pub calls : ℕ

-- one of these bytes, which has given none
abbrev pub source_of : List ℕ → ℕ → ℕ → ℕ → SourceState
source_of bytes most cut fail = record { bytes = bytes; place = 0; most = most; cut = cut; fail = fail; failures = no_failures; calls = 0 }

-- how it stands
abbrev pub source_stand : SourceState → SourceStand
source_stand s = record { remaining = Some (drop s.place s.bytes); called = s.calls; failed = s.failures }

-- up to where the next read may give
abbrev pub stop_of : SourceState → ℕ
stop_of s = if nat_lt s.place s.cut then min (length s.bytes) s.cut else length s.bytes

-- how many bytes the next read gives into this much room
abbrev pub given_count : SourceState → ℕ → ℕ
given_count s room = min (min (stop_of s - s.place) s.most) room

-- whether the next read fails
abbrev pub read_fails : SourceState → Bool
read_fails s = next_count s.calls == s.fail

-- after a read that gave so many bytes
abbrev pub after_giving : ℕ → SourceState → SourceState
after_giving n s = record s { place = s.place + n; failures = as_many s.failures; calls = next_count s.calls }

-- after one that failed
abbrev pub after_failing : SourceState → SourceState
after_failing s = record s { failures = one_more s.failures; calls = next_count s.calls }

-- a sink: what it took, the room that it has, the most that a write takes, the number of the write
-- that fails, and its counters
pub record SinkState : Type 0 where
  pub taken : List ℕ
  pub room : ℕ
  pub most : ℕ
  pub fail : ℕ
  pub failures : Failures
  pub calls : ℕ

-- one with this room, which has taken nothing
abbrev pub sink_of : ℕ → ℕ → ℕ → SinkState
sink_of room most fail = record { taken = []; room = room; most = most; fail = fail; failures = no_failures; calls = 0 }

-- how it stands
abbrev pub sink_stand : SinkState → SinkStand
sink_stand s = record { contents = Some s.taken; failed = s.failures }

-- it was made with the same numbers
pub record IsMadeAlike (old new : SinkState) : Type 0 where
  pub room : new.room ≡ old.room
  pub most : new.most ≡ old.most
  pub fail : new.fail ≡ old.fail

-- how many of so many bytes the next write takes
abbrev pub taken_count : SinkState → ℕ → ℕ
taken_count s offered = min (min offered s.most) (s.room - length s.taken)

abbrev pub write_fails : SinkState → Bool
write_fails s = next_count s.calls == s.fail
