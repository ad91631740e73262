-- Which faults reading the parts of a section can give.
use Rattle.std.proofs.Common.{◌≡◌, ◌≢◌, ℕ, zero, suc, Bool, true, false, cond, ltb, List, length, Result, Ok, Err, refl, subst, arith}
use Rattle.std.specs.Prelude.{IfErr}
use Rattle.scte35_codec.specs.declared.info.SpliceInfo.{SpliceInfo}
use Rattle.scte35_codec.specs.Section.{Section, section_of}
use Rattle.scte35_codec.specs.Hexadecimal.{is_hex_text, hex_bytes, reading_hex}
use Rattle.scte35_codec.proofs.Hexadecimals.{pairs_decode}
use Rattle.scte35_codec.specs.declared.fault.SpliceFault.{SpliceFault}
use Rattle.scte35_codec.specs.declared.fault.SpliceFault.TheVariants.{NotHex, CommandLength, OutOfMemory, TooLarge}
use Rattle.spec_words.specs.Outcomes.{◌>>=◌, Refuses}
use Rattle.scte35_codec.specs.Reading.{GivesOrSpliceFault, number_at, specified_time_at, time_at, optional_time_at, component_at, components_at, target_at, optional_duration_at, body_at, optional_body_at, insert_at, whole_insert_at, unmeasured_at, measured_of, command_at, ending_at, tail_at, contents_of, reading}

-- a reading fails by the lengths alone
abbrev pub ByLength : {A : Type 0} → Result A SpliceFault → Type 0
ByLength (Ok x) = Unit {0}
ByLength (Err fault) = fault ≡ CommandLength

by_then : {A B : Type 0} (r : Result A SpliceFault) (f : A → Result B SpliceFault) → ByLength r → ((x : A) → ByLength (f x)) → ByLength (r >>= f)
by_then (Ok x) f h g = g x
by_then (Err e) f h g = h

by_test : {A : Type 0} (b : Bool) (x y : Result A SpliceFault) → ByLength x → ByLength y → ByLength (cond b x y)
by_test true x y h g = h
by_test false x y h g = g

by_number : (count : ℕ) (bytes : List ℕ) → ByLength (number_at count bytes)
by_number count bytes = by_test (ltb (length bytes) count) _ _ refl tt

by_time : (bytes : List ℕ) → ByLength (time_at bytes)
unfolding time_at specified_time_at
by_time bytes = grind arith

by_optional_time : (immediate : Bool) (bytes : List ℕ) → ByLength (optional_time_at immediate bytes)
unfolding optional_time_at
by_optional_time true bytes = tt
by_optional_time false bytes = by_then (time_at bytes) _ (by_time bytes) (λ _. tt)

by_components : (immediate : Bool) (count : ℕ) (bytes : List ℕ) → ByLength (components_at immediate count bytes)
unfolding components_at component_at
by_components immediate zero bytes = tt
by_components immediate (suc n) bytes =
    by_then (component_at immediate bytes) _
    (by_then (number_at 1 bytes) _ (by_number 1 bytes) (λ tag. by_then (optional_time_at immediate tag.1) _ (by_optional_time immediate tag.1) (λ _. tt)))
    (λ first. by_then (components_at immediate n first.1) _ (by_components immediate n first.1) (λ _. tt))

by_target : (program immediate : Bool) (bytes : List ℕ) → ByLength (target_at program immediate bytes)
unfolding target_at
by_target program immediate bytes = grind (arith, by_components, by_optional_time)

by_duration : (stated : Bool) (bytes : List ℕ) → ByLength (optional_duration_at stated bytes)
unfolding optional_duration_at
by_duration false bytes = tt
by_duration true bytes = by_then (number_at 5 bytes) _ (by_number 5 bytes) (λ _. tt)

by_body : (bytes : List ℕ) → ByLength (body_at bytes)
unfolding body_at
by_body bytes = grind (arith, by_duration, by_target)

by_optional_body : (cancelled : Bool) (bytes : List ℕ) → ByLength (optional_body_at cancelled bytes)
unfolding optional_body_at
by_optional_body true bytes = tt
by_optional_body false bytes = by_then (body_at bytes) _ (by_body bytes) (λ _. tt)

by_insert : (bytes : List ℕ) → ByLength (insert_at bytes)
unfolding insert_at
by_insert bytes = grind (arith, by_optional_body)

by_command : (n kind : ℕ) (bytes : List ℕ) → ByLength (command_at n kind bytes)
unfolding command_at unmeasured_at measured_of whole_insert_at
by_command n kind bytes = grind (arith, by_insert)

by_tail : (bytes : List ℕ) → ByLength (tail_at bytes)
unfolding tail_at ending_at
by_tail bytes = grind arith

by_contents : (bytes : List ℕ) → ByLength (contents_of bytes)
unfolding contents_of
by_contents bytes = grind (arith, by_command, by_tail)

-- what follows the first 14 bytes fails by the lengths alone
pub contents_fail : (bytes : List ℕ) (e : SpliceFault) → contents_of bytes ≡ Err e → e ≡ CommandLength
contents_fail bytes e is = subst ByLength is (by_contents bytes)

-- a fault of a section's bytes
abbrev pub OfBytes : {A : Type 0} → Result A SpliceFault → Type 0
OfBytes (Ok x) = Unit {0}
OfBytes (Err NotHex) = ⊥
OfBytes (Err OutOfMemory) = ⊥
OfBytes (Err TooLarge) = ⊥
OfBytes (Err fault) = Unit {0}

abbrev failed : SpliceFault → Result Section SpliceFault
failed e = Err e

pub reading_faults : (bytes : List ℕ) → OfBytes (reading bytes)
unfolding reading
reading_faults bytes = grind (arith, by_contents)

-- neither is a failed allocation
other_than : (e : SpliceFault) (r : Result Section SpliceFault) → OfBytes r → Refuses OutOfMemory e r → (e ≢ NotHex) × (e ≢ TooLarge)
other_than e r h refused = grind arith

pub read_faults : (bytes : List ℕ) (result : Result SpliceInfo SpliceFault) → GivesOrSpliceFault section_of result (reading bytes) → IfErr result (λ e. (e ≢ NotHex) × (e ≢ TooLarge))
read_faults bytes (Ok info) gives = tt
read_faults bytes (Err e) gives = other_than e (reading bytes) (reading_faults bytes) gives

-- text that is hexadecimal has bytes, and so another fault
pub hex_is_read : (text : List ℕ) → is_hex_text text ≡ true → OfBytes (reading_hex text)
unfolding reading_hex hex_bytes
hex_is_read text is = grind (arith, pairs_decode, reading_faults)

pub not_hex_is : (text : List ℕ) → is_hex_text text ≡ false → reading_hex text ≡ Err NotHex
unfolding reading_hex hex_bytes
not_hex_is text is = rw is refl

by_text : (is : Bool) (text : List ℕ) → is_hex_text text ≡ is → Refuses OutOfMemory NotHex (reading_hex text) → is_hex_text text ≡ false
by_text k text is h = grind (arith, other_than, hex_is_read)

pub hex_fault_is : (text : List ℕ) (result : Result SpliceInfo SpliceFault) → GivesOrSpliceFault section_of result (reading_hex text) → result ≡ Err NotHex → is_hex_text text ≡ false
hex_fault_is text result gives e = grind (arith, by_text, Result)

by_kind : (is : Bool) (text : List ℕ) (e : SpliceFault) → is_hex_text text ≡ is → Refuses OutOfMemory e (reading_hex text) → e ≢ TooLarge
by_kind k text e is h = grind (arith, other_than, hex_is_read, not_hex_is)

pub hex_faults : (text : List ℕ) (result : Result SpliceInfo SpliceFault) → GivesOrSpliceFault section_of result (reading_hex text) → IfErr result (λ e. e ≢ TooLarge)
hex_faults text (Ok info) gives = tt
hex_faults text (Err e) gives = by_kind (is_hex_text text) text e refl gives
