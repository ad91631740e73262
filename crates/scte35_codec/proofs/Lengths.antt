-- How many bits the fields of a section have.
use Rattle.std.proofs.Common.{◌≡◌, ℕ, ◌+◌, ◌*◌, ◌/◌, ◌<◌, List, [], ◌++◌, length, get_or, take, Option, sym, ap, ◌∙◌, arith}
use Rattle.std.specs.List.{flat_map}
use Rattle.std.proofs.lemmas.List.{take_more, flat_map_more}
use Rattle.scte35_codec.specs.declared.info.SpliceTime.{SpliceTime}
use Rattle.scte35_codec.specs.Layout.{width}
use Rattle.scte35_codec.specs.Section.{Body, Section, optional_fields, component, target_fields, break_duration, body_fields, command_fields, after_length}
use Rattle.scte35_codec.proofs.Fields.{width-append}
use Rattle.scte35_codec.proofs.Whole.{width-after}

pub width_of_body : (b : Body) → width (body_fields b) ≡ 40 + width (target_fields b.target) + width (optional_fields break_duration b.duration)
unfolding body_fields
width_of_body b = grind (arith, width-append)

-- one component more
pub components_more : (cs : List (ℕ × Option SpliceTime)) (i : ℕ) (c : ℕ × Option SpliceTime) → i < length cs
    → flat_map component (take (i + 1) cs) ≡ flat_map component (take i cs) ++ component (get_or cs i c)
components_more cs i c lt = ap (flat_map component) (take_more cs i c lt) ∙ sym (flat_map_more component [] (take i cs) (get_or cs i c))

pub components_width : (cs : List (ℕ × Option SpliceTime)) (i : ℕ) (c : ℕ × Option SpliceTime) → i < length cs
    → width (flat_map component (take (i + 1) cs)) ≡ width (flat_map component (take i cs)) + width (component (get_or cs i c))
components_width cs i c lt = ap width (components_more cs i c lt) ∙ width-append (flat_map component (take i cs)) (component (get_or cs i c))

pub section_length_is : (s : Section) (n m : ℕ) → 8 * m ≡ width (command_fields s.command) → width (after_length s n) / 8 ≡ 17 + m + length s.descriptors + length s.stuffing
section_length_is s n m size = omega (arith, width-after s n)
