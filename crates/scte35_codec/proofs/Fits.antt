-- What a value that fits has.
use Rattle.std.proofs.Common.{◌≡◌, ℕ, ◌^◌, ◌<◌, ◌≤◌, Bool, true, List, [], ◌∷◌, length, Option, refl, arith}
use Rattle.std.specs.Prelude.{IsTrue}
use Rattle.std.specs.List.{list_all}
use Rattle.std.proofs.lemmas.Bool.{and_parts, and_from, leb-true, eqb-false, not-true}
use Rattle.scte35_codec.specs.declared.info.SpliceTime.{SpliceTime}
use Rattle.scte35_codec.specs.Section.{Target, Program, Components, Body, Command, Insert, Other, Section, is_timed, target_is_timed, BodyIsTimed, IsProper}
use Rattle.scte35_codec.specs.Writing.{time_fits, splice_time_fits, splice_target_fits, insert_body_fits, splice_command_fits, splice_section_length, has_splice_section}
use Rattle.scte35_codec.specs.Inner.Writing.{TargetFits}

abbrev Component : Type 0
Component = ℕ × Option SpliceTime

all_parts : (immediate : Bool) (cs : List Component) → list_all (λ c. splice_time_fits immediate c.1) cs ≡ true → (list_all (λ c. is_timed immediate c.1) cs ≡ true) × (list_all (λ c. time_fits c.1) cs ≡ true)
all_parts immediate [] h = (refl, refl)
all_parts immediate (c ∷ cs) h =
    let both = and_parts (splice_time_fits immediate c.1) (list_all (λ d. splice_time_fits immediate d.1) cs) h in
    let here = and_parts (is_timed immediate c.1) (time_fits c.1) both.0 in
    let others = all_parts immediate cs both.1 in
    (and_from (is_timed immediate c.1) (list_all (λ d. is_timed immediate d.1) cs) here.0 others.0, and_from (time_fits c.1) (list_all (λ d. time_fits d.1) cs) here.1 others.1)

pub target_needs : (immediate : Bool) (t : Target) → IsTrue (splice_target_fits immediate t) → TargetFits t
target_needs immediate (Program time) h = (and_parts (is_timed immediate time) (time_fits time) h).1
target_needs immediate (Components cs) h =
    let both = and_parts _ _ h in
    (leb-true (length cs) 255 both.0, (all_parts immediate cs both.1).1)

pub target_timed : (immediate : Bool) (t : Target) → IsTrue (splice_target_fits immediate t) → IsTrue (target_is_timed immediate t)
target_timed immediate (Program time) h = (and_parts (is_timed immediate time) (time_fits time) h).0
target_timed immediate (Components cs) h = (all_parts immediate cs (and_parts _ _ h).1).0

body_timed : (b : Option Body) → IsTrue (insert_body_fits b) → BodyIsTimed b
body_timed b h = grind (arith, target_timed, and_parts)

pub is_proper : (c : Command) → IsTrue (splice_command_fits c) → IsProper c
is_proper (Insert i) h = body_timed i.body h
is_proper (Other kind bytes) h = eqb-false kind 5 (not-true _ h)

-- ---- What a value that has a section keeps

pub record Kept (s : Section) : Type 0 where
  pub adjustment : s.pts_adjustment < 2 ^ 33
  pub tier : s.tier < 2 ^ 12
  pub command : IsTrue (splice_command_fits s.command)
  pub length : splice_section_length s ≤ 4093

pub kept : (s : Section) → has_splice_section s ≡ true → Kept s
unfolding has_splice_section
kept s h = grind arith

pub adjustment_fits : (s : Section) → has_splice_section s ≡ true → s.pts_adjustment < 2 ^ 33
adjustment_fits s h = (kept s h).adjustment

pub tier_fits : (s : Section) → has_splice_section s ≡ true → s.tier < 4096
tier_fits s h = (kept s h).tier

pub command_is_fit : (s : Section) → has_splice_section s ≡ true → splice_command_fits s.command ≡ true
command_is_fit s h = (kept s h).command
