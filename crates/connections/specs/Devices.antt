-- Clients' devices, no call of which waits: what one call comes to, and how a device stands.
use Rattle.std.specs.Prelude.{◌≡◌, ℕ, ◌≤◌, Bool, true, false, List, take, Option, Some, None, Result, Ok, Err, if◌then◌else◌}
use Rattle.std.specs.IoError.{error_kind}
use Rattle.std.specs.declared.io.Error.{Error}
use Rattle.std.specs.declared.io.ErrorKind.{ErrorKind}
use Rattle.std.specs.declared.io.ErrorKind.TheVariants as kind
use Rattle.std.specs.Io.KnownBytes.{Keeps, Consumes, Appends, IsAtEnd}
use Rattle.byte_streams.specs.Devices.{next_count}
use Rattle.connections.specs.declared.devices.Passage.{Passage}
use Rattle.connections.specs.declared.devices.Passage.TheVariants.{Bytes, WouldWait, HasFailed}

-- a read may give these
abbrev pub AreNext : List ℕ → Option (List ℕ) → Type 0
AreNext bytes left = (rest : Option (List ℕ)) × Consumes left rest bytes

-- ---- what a call comes to

-- at most so many bytes went through
abbrev pub PassesAtMost : Passage → ℕ → Type 0
PassesAtMost (Bytes n) most = n ≤ most
PassesAtMost WouldWait most = Unit {0}
PassesAtMost HasFailed most = Unit {0}

-- a read gave so many of the bytes that are left, none only at the end; if it would wait or failed, all are left
abbrev pub ReadPasses : Option (List ℕ) → Option (List ℕ) → Passage → List ℕ → Type 0
ReadPasses old new (Bytes n) buf = Consumes old new (take n buf) × (n ≡ 0 → IsAtEnd new)
ReadPasses old new WouldWait buf = Keeps old new
ReadPasses old new HasFailed buf = Keeps old new

-- a write took so many of these bytes; if it would wait or failed, none
abbrev pub WritePasses : Option (List ℕ) → Option (List ℕ) → Passage → List ℕ → Type 0
WritePasses old new (Bytes n) buf = Appends old new (take n buf)
WritePasses old new WouldWait buf = Keeps old new
WritePasses old new HasFailed buf = Keeps old new

-- a look gave so many bytes, which are the next ones
abbrev pub LookPasses : Option (List ℕ) → Passage → List ℕ → Type 0
LookPasses left (Bytes n) buf = AreNext (take n buf) left
LookPasses left WouldWait buf = Unit {0}
LookPasses left HasFailed buf = Unit {0}

-- ---- what a call of std comes to

-- it failed because it would wait
abbrev pub device_would_wait : ErrorKind → Bool
device_would_wait kind.WouldBlock = true
device_would_wait _ = false

abbrev pub device_passage_of : Result ℕ Error → Passage
device_passage_of (Ok n) = Bytes n
device_passage_of (Err e) = if device_would_wait (error_kind e) then WouldWait else HasFailed

-- a call comes to this by one of these answers
abbrev pub ComesOf : (Result ℕ Error → Type 0) → Passage → Type 0
ComesOf Answers passage = (answer : Result ℕ Error) × Answers answer × (passage ≡ device_passage_of answer)

-- ---- how a device stands

-- how often it was called, and what the last call came to
pub record Calls : Type 0 where
  pub count : ℕ
  pub last : Option Passage

-- before the first call
abbrev pub no_calls : Calls
no_calls = record { count = 0; last = None }

-- one call more, which came to this. The count stays at 2^64 - 1
abbrev pub one_call : Passage → Calls → Calls
one_call passage calls = record { count = next_count calls.count; last = Some passage }

-- the bytes that it will still give, or that it has taken, if they are known; and its calls
pub record DeviceStand : Type 0 where
  pub bytes : Option (List ℕ)
  pub calls : Calls
