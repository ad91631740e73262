-- What proofs and inner functions say with the definitions of `Writing`.
use Rattle.scte35_codec.specs.Writing.{time_fits, command_length, splice_section_length}
use Rattle.std.specs.Prelude.{◌≡◌, ℕ, ◌≤◌, List, ◌∷◌, ◌++◌, length, IsTrue}
use Rattle.std.specs.List.{list_all}
use Rattle.scte35_codec.specs.Layout.{BitField, Is, bytes_of, IsBytes, HoldsFields, IsWritten}
use Rattle.scte35_codec.specs.Section.{Target, Program, Components, Section, command_fields, start_fields, heading_fields}

-- at most 255 components
abbrev pub IsCounted : Target → Type 0
IsCounted (Program time) = Unit {0}
IsCounted (Components components) = length components ≤ 255

-- what a target's fields need, whether or not the splice is immediate
abbrev pub TargetFits : Target → Type 0
TargetFits (Program time) = IsTrue (time_fits time)
TargetFits (Components components) = (length components ≤ 255) × IsTrue (list_all (λ c. time_fits c.1) components)

-- descriptor_loop_length, the descriptors, the stuffing
abbrev pub tail_fields : Section → List BitField
tail_fields s = (16, Is (length s.descriptors)) ∷ bytes_of s.descriptors ++ bytes_of s.stuffing

-- the fields of a section that is written, up to CRC_32
abbrev pub front_fields : Section → List BitField
front_fields s =
    start_fields (splice_section_length s) ++ (heading_fields s (command_length s) ++ command_fields s.command ++ tail_fields s)

-- new is old with these fields at its end, reserved bits as they are written
pub record Appends (fields : List BitField) (old new : List ℕ) : Type 0 where
  pub added : List ℕ
  pub whole : new ≡ old ++ added
  pub bytes : IsBytes added
  pub holds : HoldsFields IsWritten fields added
