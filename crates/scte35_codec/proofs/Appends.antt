-- What writers add at the end of some bytes.
use Rattle.std.proofs.Common.{◌≡◌, ℕ, zero, suc, ◌+◌, ◌-◌, ◌*◌, ◌/◌, ◌%◌, ◌^◌, ◌≤◌, cond, List, [], ◌∷◌, ◌++◌, length, take, drop, Result, Ok, Err, is_ok, refl, sym, ap, subst, ◌∙◌, inl, append_assoc, arith}
use Rattle.std.specs.Prelude.{OnOk, Bool, true, Option, is_none, is_some, not}
use Rattle.std.specs.List.{flat_map}
use Rattle.std.specs.Int.{byte_at, bytes_high_first}
use Rattle.std.proofs.lemmas.List.{take_all}
use Rattle.scte35_codec.specs.Layout.{Is, Reserved, BitField, width, bytes_of, IsBytes, big_endian_splice_number, Splits, HoldsFields, IsRead, IsWritten}
use Rattle.scte35_codec.specs.declared.info.SpliceTime.{SpliceTime}
use Rattle.scte35_codec.specs.declared.info.InsertBody.{InsertBody}
use Rattle.scte35_codec.specs.Section.{bodies_of, cancel_fields, Command, Insert, Other, Section, command_fields, StatesLength, splice_section_fields, IsSection, Target, Components, component, target_fields}
use Rattle.scte35_codec.specs.Writing.{command_length, written_fields, has_splice_section}
use Rattle.scte35_codec.specs.Inner.Writing.{Appends}
use Rattle.scte35_codec.proofs.Fields.{Holds-join}
use Rattle.scte35_codec.proofs.Takes.{IsBytes-append}
use Rattle.scte35_codec.proofs.Sections.{bytes_hold, width_of_bytes}
use Rattle.scte35_codec.proofs.Fits.{is_proper, kept}
use Rattle.scte35_codec.proofs.Whole.{width-section, width-after, is_read}
use Rattle.scte35_codec.specs.Reading.{reading}

-- ---- The bytes of a number

pub length-bytes : (k n : ℕ) → length (bytes_high_first k n) ≡ k
length-bytes zero n = refl
length-bytes (suc k) n = ap suc (length-bytes k n)

pub byte_is : (k n : ℕ) → byte_at k n ≡ n / 256 ^ k % 256
byte_is zero n = omega arith
byte_is (suc k) n = refl

-- the lowest bytes of a number
pub lowest_bytes : (j k n : ℕ) → drop j (bytes_high_first (j + k) n) ≡ bytes_high_first k n
lowest_bytes zero k n = ap (λ (m : ℕ). bytes_high_first m n) (omega arith)
lowest_bytes (suc j) k n =
    let more : suc j + k ≡ suc (j + k) = omega arith in
    rw more (lowest_bytes j k n)

-- the last bytes of eight
pub last_bytes : (k n : ℕ) → k ≤ 8 → take (8 - (8 - k)) (drop (8 - k) (bytes_high_first 8 n)) ≡ bytes_high_first k n
last_bytes k n few =
    let parts : 8 - k + k ≡ 8 = omega arith in
    let here : drop (8 - k) (bytes_high_first 8 n) ≡ bytes_high_first k n = ap (λ (m : ℕ). drop (8 - k) (bytes_high_first m n)) (sym parts) ∙ lowest_bytes (8 - k) k n in
    ap (λ (xs : List ℕ). take (8 - (8 - k)) xs) here ∙ take_all (8 - (8 - k)) (bytes_high_first k n) (omega (arith, length-bytes k n))

-- what a call that adds bytes says if it succeeds
pub on_added : {E : Type 0} (r : Result (Unit {0}) E) (old new added : List ℕ) (P : Type 0) → new ≡ cond (is_ok r) (old ++ added) old → (new ≡ old ++ added → P) → OnOk r P
on_added (Ok x) old new added P e f = f e
on_added (Err d) old new added P e f = tt

pub on_ok : {E : Type 0} (r : Result (Unit {0}) E) (P Q : Type 0) → OnOk r P → (P → Q) → OnOk r Q
on_ok (Ok x) P Q h f = f h
on_ok (Err d) P Q h f = tt

-- ---- One field group after another

pub Appends-then : {fs gs : List BitField} {a b c : List ℕ} → Appends fs a b → Appends gs b c → Appends (fs ++ gs) a c
Appends-then {fs} {gs} {a} {b} {c} p q = record {
  added = p.added ++ q.added;
  whole = q.whole ∙ ap (λ (x : List ℕ). x ++ q.added) p.whole ∙ append_assoc a p.added q.added;
  bytes = IsBytes-append p.added q.added p.bytes q.bytes;
  holds = Holds-join IsWritten fs gs p.added q.added p.bytes q.bytes p.holds q.holds;
}

pub Appends-is : {fs gs : List BitField} {a b : List ℕ} → fs ≡ gs → Appends fs a b → Appends gs a b
Appends-is {fs} {gs} {a} {b} e h = subst (λ (x : List BitField). Appends x a b) e h

pub bytes_append : (bs old new : List ℕ) → new ≡ old ++ bs → IsBytes bs → Appends (bytes_of bs) old new
bytes_append bs old new whole fits = record { added = bs; whole = whole; bytes = fits; holds = bytes_hold IsWritten (λ v n e. e) bs fits }

-- a count, and the components that it counts
pub counted_appends : {E : Type 0} (r : Result (Unit {0}) E) (cs ds : List (ℕ × Option SpliceTime)) (n : ℕ) (t : Target) (a b c : List ℕ) → n ≡ length cs → ds ≡ cs → t ≡ Components cs
    → Appends ((8, Is n) ∷ []) a b → OnOk r (Appends (flat_map component ds) b c) → OnOk r (Appends (target_fields t) a c)
counted_appends r cs ds n t a b c len same is count added =
    on_ok r (Appends (flat_map component ds) b c) (Appends (target_fields t) a c) added (λ q.
    subst (λ (u : Target). Appends (target_fields u) a c) (sym is)
    (Appends-then (subst (λ (k : ℕ). Appends ((8, Is k) ∷ []) a b) len count) (subst (λ (xs : List (ℕ × Option SpliceTime)). Appends (flat_map component xs) b c) same q)))

-- an event is cancelled exactly if it has no body
pub cancelled : (b : Option InsertBody) (x : Bool) (old new : List ℕ) → is_some b ≡ not x → Appends (cancel_fields x) old new → Appends (cancel_fields (is_none (bodies_of b))) old new
cancelled b x old new e h = grind arith

-- ---- What is written is read

Splits-read : (fs : List BitField) (n : ℕ) → Splits IsWritten fs n → Splits IsRead fs n
Splits-read [] n split = split
Splits-read ((w, Is v) ∷ fs) n split = (split.0, Splits-read fs (n % 2 ^ width fs) split.1)
Splits-read ((w, Reserved v) ∷ fs) n split = (tt, Splits-read fs (n % 2 ^ width fs) split.1)

pub Holds-read : (fs : List BitField) (bytes : List ℕ) → HoldsFields IsWritten fs bytes → HoldsFields IsRead fs bytes
Holds-read fs bytes h = record { count = h.count; split = Splits-read fs (big_endian_splice_number bytes) h.split }

-- what is written from nothing on
pub record Made (s : Section) (bytes : List ℕ) : Type 0 where
  pub fits : IsBytes bytes
  pub holds : HoldsFields IsWritten (written_fields s) bytes

pub made : (s : Section) (old new : List ℕ) → old ≡ [] → Appends (written_fields s) old new → Made s new
made s old new none h = grind arith

-- the command's bytes are whole
stated : (c : Command) (m : ℕ) → 8 * m ≡ width (command_fields c) → StatesLength c (width (command_fields c) / 8)
stated (Insert i) m size = inl (omega arith)
stated (Other kind bytes) m size = omega (arith, width_of_bytes bytes)

pub made_is : (s : Section) (bytes : List ℕ) → has_splice_section s ≡ true → Made s bytes → IsSection s bytes
made_is s bytes fit h =
    let n = command_length s in
    let m = length bytes - 20 - length s.descriptors - length s.stuffing in
    let size : 8 * m ≡ width (command_fields s.command) = omega (arith, h.holds.count, width-section s n, width-after s n) in
    record {
      command_length = n;
      stated = stated s.command m size;
      proper = is_proper s.command (kept s fit).command;
      fields = Holds-read (splice_section_fields s n) bytes h.holds;
    }

pub made_again : (s : Section) (bytes : List ℕ) → has_splice_section s ≡ true → Made s bytes → reading bytes ≡ Ok s
made_again s bytes fit h = is_read bytes s h.fits (made_is s bytes fit h)
