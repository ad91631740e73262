-- The layout of a splice_info_section with its splice_insert, by the tables of ANSI/SCTE 35.
use Rattle.std.specs.Prelude.{◌≡◌, ℕ, ◌*◌, ◌/◌, Bool, true, false, ◌⊎◌, List, [], ◌∷◌, ◌++◌, length, Option, Some, None, is_some, is_none, if◌then◌else◌, IsTrue, ◌≢◌}
use Rattle.std.specs.List.{flat_map, list_all}
use Rattle.scte35_codec.specs.declared.info.SpliceTime.{SpliceTime}
use Rattle.scte35_codec.specs.declared.info.BreakDuration.{BreakDuration}
use Rattle.scte35_codec.specs.declared.info.SpliceTarget.{SpliceTarget}
use Rattle.scte35_codec.specs.declared.info.SpliceTarget.TheVariants as targets
use Rattle.scte35_codec.specs.declared.info.InsertBody.{InsertBody}
use Rattle.scte35_codec.specs.declared.info.SpliceInsert.{SpliceInsert}
use Rattle.scte35_codec.specs.declared.info.SpliceCommand.{SpliceCommand}
use Rattle.scte35_codec.specs.declared.info.SpliceCommand.TheVariants as commands
use Rattle.scte35_codec.specs.declared.info.SpliceInfo.{SpliceInfo}
use Rattle.scte35_codec.specs.Layout.{BitField, Is, Reserved, width, bytes_of, IsRead, HoldsFields}

-- ---- What a section says, without where it lies in memory

pub data Target : Type 0 where
  Program : Option SpliceTime → Target
  Components : List (ℕ × Option SpliceTime) → Target

pub record Body : Type 0 where
  pub out_of_network : Bool
  pub immediate : Bool
  pub target : Target
  pub duration : Option BreakDuration
  pub unique_program_id : ℕ
  pub avail_num : ℕ
  pub avails_expected : ℕ

-- a splice_insert, which has no body if it is cancelled
pub record SpliceEvent : Type 0 where
  pub event_id : ℕ
  pub body : Option Body

pub data Command : Type 0 where
  Insert : SpliceEvent → Command
  Other : ℕ → List ℕ → Command

pub record Section : Type 0 where
  pub pts_adjustment : ℕ
  pub cw_index : ℕ
  pub tier : ℕ
  pub command : Command
  pub descriptors : List ℕ
  pub stuffing : List ℕ
  pub crc : ℕ

abbrev pub target_of : SpliceTarget → Target
target_of (targets.Program time) = Program time
target_of (targets.Components components) = Components components.items

abbrev pub body_of_insert : InsertBody → Body
body_of_insert b = record {
  out_of_network = b.out_of_network;
  immediate = b.immediate;
  target = target_of b.target;
  duration = b.duration;
  unique_program_id = b.unique_program_id;
  avail_num = b.avail_num;
  avails_expected = b.avails_expected;
}

abbrev pub bodies_of : Option InsertBody → Option Body
bodies_of None = None
bodies_of (Some b) = Some (body_of_insert b)

abbrev pub event_of : SpliceInsert → SpliceEvent
event_of i = record { event_id = i.event_id; body = bodies_of i.body }

abbrev pub command_of : SpliceCommand → Command
command_of (commands.Insert i) = Insert (event_of i)
command_of (commands.Other kind bytes) = Other kind bytes.items

abbrev pub section_of : SpliceInfo → Section
section_of s = record {
  pts_adjustment = s.pts_adjustment;
  cw_index = s.cw_index;
  tier = s.tier;
  command = command_of s.command;
  descriptors = s.descriptors.items;
  stuffing = s.stuffing.items;
  crc = s.crc;
}

-- ---- The tables

abbrev pub splice_flag : Bool → ℕ
splice_flag true = 1
splice_flag false = 0

abbrev pub optional_fields : {A : Type 0} → (A → List BitField) → Option A → List BitField
optional_fields fields None = []
optional_fields fields (Some x) = fields x

-- time_specified_flag, reserved bits, and pts_time if it is specified
abbrev pub time_fields : Option ℕ → List BitField
time_fields None = (1, Is 0) ∷ (7, Reserved 127) ∷ []
time_fields (Some pts) = (1, Is 1) ∷ (6, Reserved 63) ∷ (33, Is pts) ∷ []

abbrev pub splice_time : SpliceTime → List BitField
splice_time time = time_fields time.pts

-- component_tag, and its time unless the splice is immediate
abbrev pub component : ℕ × Option SpliceTime → List BitField
component c = (8, Is c.0) ∷ optional_fields splice_time c.1

-- for a program its time unless the splice is immediate, else component_count and the components
abbrev pub target_fields : Target → List BitField
target_fields (Program time) = optional_fields splice_time time
target_fields (Components components) = (8, Is (length components)) ∷ flat_map component components

abbrev pub is_program_splice : Target → Bool
is_program_splice (Program time) = true
is_program_splice (Components components) = false

-- auto_return, reserved bits, duration
abbrev pub break_duration : BreakDuration → List BitField
break_duration d = (1, Is (splice_flag d.auto_return)) ∷ (6, Reserved 63) ∷ (33, Is d.ticks) ∷ []

abbrev pub body_flags : Body → List BitField
body_flags b =
    (1, Is (splice_flag b.out_of_network))
    ∷ (1, Is (splice_flag (is_program_splice b.target)))
    ∷ (1, Is (splice_flag (is_some b.duration)))
    ∷ (1, Is (splice_flag b.immediate))
    ∷ (4, Reserved 15)
    ∷ []

abbrev pub body_ids : Body → List BitField
body_ids b = (16, Is b.unique_program_id) ∷ (8, Is b.avail_num) ∷ (8, Is b.avails_expected) ∷ []

unfoldable pub body_fields : Body → List BitField
body_fields b = body_flags b ++ target_fields b.target ++ optional_fields break_duration b.duration ++ body_ids b

-- splice_event_cancel_indicator, reserved bits
abbrev pub cancel_fields : Bool → List BitField
cancel_fields is_cancelled = (1, Is (splice_flag is_cancelled)) ∷ (7, Reserved 127) ∷ []

-- splice_event_id, splice_event_cancel_indicator, and what follows unless the event is cancelled
unfoldable pub splice_insert : SpliceEvent → List BitField
splice_insert i = (32, Is i.event_id) ∷ cancel_fields (is_none i.body) ++ optional_fields body_fields i.body

abbrev pub command_fields : Command → List BitField
command_fields (Insert i) = splice_insert i
command_fields (Other kind bytes) = bytes_of bytes

-- splice_command_type
abbrev pub type_of_splice_command : Command → ℕ
type_of_splice_command (Insert i) = 5
type_of_splice_command (Other kind bytes) = kind

-- the fields up to section_length, which is this
abbrev pub start_fields : ℕ → List BitField
start_fields section_length =
    (8, Is 0xFC)  -- table_id
    ∷ (1, Reserved 0)  -- section_syntax_indicator
    ∷ (1, Reserved 0)  -- private_indicator
    ∷ (2, Reserved 3)
    ∷ (12, Is section_length)
    ∷ []

-- the fields from there to the command, if splice_command_length is this
abbrev pub heading_fields : Section → ℕ → List BitField
heading_fields s command_length =
    (8, Is 0)  -- protocol_version
    ∷ (1, Is 0)  -- encrypted_packet
    ∷ (6, Reserved 0)  -- encryption_algorithm
    ∷ (33, Is s.pts_adjustment)
    ∷ (8, Is s.cw_index)
    ∷ (12, Is s.tier)
    ∷ (12, Is command_length)
    ∷ (8, Is (type_of_splice_command s.command))
    ∷ []

-- descriptor_loop_length, the descriptors, the stuffing, CRC_32
abbrev pub ending_fields : Section → List BitField
ending_fields s = (16, Is (length s.descriptors)) ∷ bytes_of s.descriptors ++ bytes_of s.stuffing ++ (32, Is s.crc) ∷ []

-- what follows section_length
unfoldable pub after_length : Section → ℕ → List BitField
after_length s command_length = heading_fields s command_length ++ command_fields s.command ++ ending_fields s

-- the section, if splice_command_length is this: section_length counts the bytes that follow it
unfoldable pub splice_section_fields : Section → ℕ → List BitField
splice_section_fields s command_length = start_fields (width (after_length s command_length) / 8) ++ after_length s command_length

-- ---- What a value of these fields keeps

-- A time is there exactly if the splice is not immediate.
abbrev pub is_timed : Bool → Option SpliceTime → Bool
is_timed immediate time = if immediate then is_none time else is_some time

abbrev pub target_is_timed : Bool → Target → Bool
target_is_timed immediate (Program time) = is_timed immediate time
target_is_timed immediate (Components components) = list_all (λ c. is_timed immediate c.1) components

abbrev pub BodyIsTimed : Option Body → Type 0
BodyIsTimed None = Unit {0}
BodyIsTimed (Some b) = IsTrue (target_is_timed b.immediate b.target)

-- A splice_insert has its times where they belong; a command of another type is not one.
abbrev pub IsProper : Command → Type 0
IsProper (Insert i) = BodyIsTimed i.body
IsProper (Other kind bytes) = kind ≢ 5

-- splice_command_length counts the command's bytes. For a splice_insert it may be 0xFFF, which leaves it unsaid.
abbrev pub StatesLength : Command → ℕ → Type 0
StatesLength (Insert i) n = (8 * n ≡ width (splice_insert i)) ⊎ (n ≡ 0xFFF)
StatesLength (Other kind bytes) n = n ≡ length bytes

-- The bytes are a splice section that says this.
pub record IsSection (s : Section) (bytes : List ℕ) : Type 0 where
  pub command_length : ℕ
  pub stated : StatesLength s.command command_length
  pub proper : IsProper s.command
  pub fields : HoldsFields IsRead (splice_section_fields s command_length) bytes
