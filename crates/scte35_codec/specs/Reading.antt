-- Reading a section from left to right, with the first fault that is met.
use Rattle.std.specs.Prelude.{ℕ, zero, suc, ◌+◌, ◌-◌, ◌/◌, ◌%◌, ◌^◌, Bool, true, false, not, List, [], ◌∷◌, length, take, drop, Option, Some, None, Result, Ok, Err, nat_lt, ◌==◌, if◌then◌else◌}
use Rattle.spec_words.specs.Outcomes as outcomes
use Rattle.spec_words.specs.Outcomes.{◌>>=◌}
use Rattle.scte35_codec.specs.declared.fault.SpliceFault.{SpliceFault}
use Rattle.scte35_codec.specs.declared.fault.SpliceFault.TheVariants.{TooShort, TableId, Length, Protocol, Encrypted, CommandLength, OutOfMemory}
use Rattle.scte35_codec.specs.declared.info.SpliceTime.{SpliceTime}
use Rattle.scte35_codec.specs.declared.info.BreakDuration.{BreakDuration}
use Rattle.scte35_codec.specs.Layout.{big_endian_splice_number}
use Rattle.scte35_codec.specs.Section.{Target, Program, Components, Body, SpliceEvent, Command, Insert, Other, Section}

-- what a function answered, seen by view, is what reading gives, a failed allocation apart
abbrev pub GivesOrSpliceFault : {X Y : Type 0} → (X → Y) → Result X SpliceFault → Result Y SpliceFault → Type 0
GivesOrSpliceFault view result read = outcomes.Gives OutOfMemory view result read

-- ---- Numbers of some bytes

-- the number in `count` bytes from `start` on
abbrev pub splice_number_in : ℕ → ℕ → List ℕ → ℕ
splice_number_in start count bytes = big_endian_splice_number (take count (drop start bytes))

-- whether the bit at a place is set, where the lowest is at place 0
abbrev pub splice_bit : ℕ → ℕ → Bool
splice_bit place n = n / 2 ^ place % 2 == 1

-- the first bytes, and the bytes after them
abbrev pub bytes_at : ℕ → List ℕ → Result (List ℕ × List ℕ) SpliceFault
bytes_at count bytes = if nat_lt (length bytes) count then Err CommandLength else Ok (take count bytes, drop count bytes)

-- the number in the first bytes, and the bytes after them
abbrev pub number_at : ℕ → List ℕ → Result (ℕ × List ℕ) SpliceFault
number_at count bytes = if nat_lt (length bytes) count then Err CommandLength else Ok (big_endian_splice_number (take count bytes), drop count bytes)

-- ---- The parts of splice_insert

unfoldable pub specified_time_at : List ℕ → Result (SpliceTime × List ℕ) SpliceFault
specified_time_at bytes = do
  time ← number_at 5 bytes
  Ok (record { pts = Some (time.0 % 2 ^ 33) }, time.1)

unfoldable pub time_at : List ℕ → Result (SpliceTime × List ℕ) SpliceFault
time_at bytes = do
  flags ← number_at 1 bytes
  if splice_bit 7 flags.0 then specified_time_at bytes else Ok (record { pts = None }, flags.1)

-- no time if the splice is immediate
unfoldable pub optional_time_at : Bool → List ℕ → Result (Option SpliceTime × List ℕ) SpliceFault
optional_time_at true bytes = Ok (None, bytes)
optional_time_at false bytes = do
  time ← time_at bytes
  Ok (Some time.0, time.1)

unfoldable pub component_at : Bool → List ℕ → Result ((ℕ × Option SpliceTime) × List ℕ) SpliceFault
component_at immediate bytes = do
  tag ← number_at 1 bytes
  time ← optional_time_at immediate tag.1
  Ok ((tag.0, time.0), time.1)

unfoldable pub components_at : Bool → ℕ → List ℕ → Result (List (ℕ × Option SpliceTime) × List ℕ) SpliceFault
components_at immediate zero bytes = Ok ([], bytes)
components_at immediate (suc n) bytes = do
  first ← component_at immediate bytes
  others ← components_at immediate n first.1
  Ok (first.0 ∷ others.0, others.1)

unfoldable pub target_at : Bool → Bool → List ℕ → Result (Target × List ℕ) SpliceFault
target_at true immediate bytes = do
  time ← optional_time_at immediate bytes
  Ok (Program time.0, time.1)
target_at false immediate bytes = do
  count ← number_at 1 bytes
  components ← components_at immediate count.0 count.1
  Ok (Components components.0, components.1)

unfoldable pub optional_duration_at : Bool → List ℕ → Result (Option BreakDuration × List ℕ) SpliceFault
optional_duration_at false bytes = Ok (None, bytes)
optional_duration_at true bytes = do
  duration ← number_at 5 bytes
  Ok (Some (record { auto_return = splice_bit 39 duration.0; ticks = duration.0 % 2 ^ 33 }), duration.1)

unfoldable pub body_at : List ℕ → Result (Body × List ℕ) SpliceFault
body_at bytes = do
  flags ← number_at 1 bytes
  target ← target_at (splice_bit 6 flags.0) (splice_bit 4 flags.0) flags.1
  duration ← optional_duration_at (splice_bit 5 flags.0) target.1
  ids ← number_at 4 duration.1
  Ok (
    record {
      out_of_network = splice_bit 7 flags.0;
      immediate = splice_bit 4 flags.0;
      target = target.0;
      duration = duration.0;
      unique_program_id = ids.0 / 2 ^ 16;
      avail_num = ids.0 / 2 ^ 8 % 2 ^ 8;
      avails_expected = ids.0 % 2 ^ 8;
    },
    ids.1,
  )

-- no body if the event is cancelled
unfoldable pub optional_body_at : Bool → List ℕ → Result (Option Body × List ℕ) SpliceFault
optional_body_at true bytes = Ok (None, bytes)
optional_body_at false bytes = do
  body ← body_at bytes
  Ok (Some body.0, body.1)

unfoldable pub insert_at : List ℕ → Result (SpliceEvent × List ℕ) SpliceFault
insert_at bytes = do
  event ← number_at 4 bytes
  flags ← number_at 1 event.1
  body ← optional_body_at (splice_bit 7 flags.0) flags.1
  Ok (record { event_id = event.0; body = body.0 }, body.1)

-- ---- The section

-- a splice_insert that takes all of the bytes
unfoldable pub whole_insert_at : List ℕ → Result SpliceEvent SpliceFault
whole_insert_at bytes = do
  insert ← insert_at bytes
  if length insert.1 == 0 then Ok insert.0 else Err CommandLength

-- a command of a length that is not stated, which a splice_insert alone may have
unfoldable pub unmeasured_at : ℕ → List ℕ → Result (Command × List ℕ) SpliceFault
unmeasured_at kind bytes =
    if not (kind == 5) then Err CommandLength
    else insert_at bytes >>= λ insert. Ok (Insert insert.0, insert.1)

unfoldable pub measured_of : ℕ → List ℕ → Result Command SpliceFault
measured_of kind bytes =
    if kind == 5 then (whole_insert_at bytes >>= λ insert. Ok (Insert insert))
    else Ok (Other kind bytes)

unfoldable pub command_at : ℕ → ℕ → List ℕ → Result (Command × List ℕ) SpliceFault
command_at command_length kind bytes =
    if command_length == 0xFFF then unmeasured_at kind bytes
    else bytes_at command_length bytes >>= λ parts. measured_of kind parts.0 >>= λ command. Ok (command, parts.1)

-- all but the last four bytes, and the number in these
unfoldable pub ending_at : List ℕ → Result (List ℕ × ℕ) SpliceFault
ending_at bytes =
    if nat_lt (length bytes) 4 then Err CommandLength
    else Ok (take (length bytes - 4) bytes, big_endian_splice_number (drop (length bytes - 4) bytes))

-- the descriptors, the stuffing and the CRC, which stand after the command
unfoldable pub tail_at : List ℕ → Result (List ℕ × List ℕ × ℕ) SpliceFault
tail_at bytes = do
  count ← number_at 2 bytes
  descriptors ← bytes_at count.0 count.1
  ending ← ending_at descriptors.1
  Ok (descriptors.0, ending.0, ending.1)

-- what follows the first 14 bytes
unfoldable pub contents_of : List ℕ → Result Section SpliceFault
contents_of bytes = do
  command ← command_at (splice_number_in 10 3 bytes % 2 ^ 12) (splice_number_in 13 1 bytes) (drop 14 bytes)
  tail ← tail_at command.1
  Ok (record {
    pts_adjustment = splice_number_in 4 5 bytes % 2 ^ 33;
    cw_index = splice_number_in 9 1 bytes;
    tier = splice_number_in 10 3 bytes / 2 ^ 12;
    command = command.0;
    descriptors = tail.0;
    stuffing = tail.1;
    crc = tail.2;
  })

-- what the bytes say, or their first fault
unfoldable pub reading : List ℕ → Result Section SpliceFault
reading bytes =
    if nat_lt (length bytes) 20 then Err TooShort
    else if not (splice_number_in 0 1 bytes == 0xFC) then Err TableId
    else if not (splice_number_in 1 2 bytes % 2 ^ 12 + 3 == length bytes) then Err Length
    else if not (splice_number_in 3 1 bytes == 0) then Err Protocol
    else if splice_bit 39 (splice_number_in 4 5 bytes) then Err Encrypted
    else contents_of bytes
