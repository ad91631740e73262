-- The whole section: what is read lies there, and what lies there is read.
use Rattle.std.proofs.Common.{◌≡◌, ℕ, ◌+◌, ◌-◌, ◌*◌, ◌/◌, ◌%◌, ◌^◌, ◌<◌, ◌≤◌, true, false, not, eqb, ltb, List, [], ◌∷◌, ◌++◌, length, take, drop, Result, Ok, Err, refl, sym, ap, subst, ◌∙◌, inl, inr, append_assoc, arith}
use Rattle.std.proofs.lemmas.Bool.{ltb-false, le-ltb, eqb-true, eqb-false, not-false, cases_lt, lt-ltb, le-leb, and_from}
use Rattle.std.proofs.lemmas.List.{length-take, length-drop, take-append-drop, drop-drop, append-nil}
use Rattle.scte35_codec.specs.declared.fault.SpliceFault.{SpliceFault}
use Rattle.scte35_codec.specs.declared.fault.SpliceFault.TheVariants.{CommandLength}
use Rattle.scte35_codec.specs.Layout.{BitField, Is, Reserved, width, bytes_of, big_endian_splice_number, Splits, HoldsFields, IsRead}
use Rattle.scte35_codec.specs.Section.{Command, Section, command_fields, type_of_splice_command, after_length, splice_section_fields, IsProper, StatesLength, IsSection}
use Rattle.std.specs.Prelude.{IfOk, ◌&&◌, nat_le}
use Rattle.std.proofs.lemmas.Grind.{common_steps}
use Rattle.std.proofs.lemmas.Bool.Decides.{nat_tests}
use Rattle.scte35_codec.specs.declared.info.SpliceInfo.{SpliceInfo}
use Rattle.scte35_codec.specs.Section.{section_of}
use Rattle.scte35_codec.specs.Writing.{fits_bits, splice_command_fits, command_length, splice_section_length, has_splice_section}
use Rattle.scte35_codec.proofs.Fits.{is_proper}
use Rattle.spec_words.specs.Outcomes.{◌>>=◌}
use Rattle.scte35_codec.specs.Reading.{GivesOrSpliceFault, splice_number_in, splice_bit, bytes_at, number_at, command_at, ending_at, tail_at, contents_of, reading}
use Rattle.scte35_codec.specs.Layout.{IsBytes}
use Rattle.scte35_codec.proofs.Numbers.{IsBytes-drop, IsBytes-take}
use Rattle.scte35_codec.proofs.Fields.{width-append, number_fits}
use Rattle.scte35_codec.proofs.Takes.{bind_ok, guard_ok, ok_is, test-flag, Takes, Takes-then, number_takes, group_takes, Lies, group_again, parts}
use Rattle.scte35_codec.proofs.Sections.{width_of_bytes, bytes_are, bytes_taken, command_takes, command_again, passed, whole_width}

-- ---- What stands after the command

abbrev count_fields : List ℕ → List BitField
count_fields ds = (16, Is (length ds)) ∷ []

abbrev crc_fields : ℕ → List BitField
crc_fields crc = (32, Is crc) ∷ []

abbrev tail_fields : List ℕ → List ℕ → ℕ → List BitField
tail_fields ds st crc = count_fields ds ++ bytes_of ds ++ bytes_of st ++ crc_fields crc

ending_takes : (bytes st : List ℕ) (crc : ℕ) → IsBytes bytes → ending_at bytes ≡ Ok (st, crc) → Takes (bytes_of st ++ crc_fields crc) bytes []
unfolding ending_at
ending_takes bytes st crc fits e =
    let n = length bytes - 4 in
    let g = guard_ok (ltb (length bytes) 4) CommandLength (take n bytes, big_endian_splice_number (drop n bytes)) (st, crc) e in
    let long : 4 ≤ length bytes = ltb-false _ _ g.0 in
    let rest = drop n bytes in
    let rest_fits = IsBytes-drop n bytes fits in
    let len : 8 * length rest ≡ 32 = omega (arith, length-drop n bytes) in
    let below : big_endian_splice_number rest < 2 ^ 32 = number_fits rest 32 rest_fits len in
    let last : Takes (crc_fields (big_endian_splice_number rest)) rest [] = record {
      front = rest;
      whole = sym (append-nil rest);
      front_fits = rest_fits;
      rest_fits = λ i. omega arith;
      holds = record { count = len; split = (omega arith, omega arith) };
    } in
    subst (λ (p : List ℕ × ℕ). Takes (bytes_of p.0 ++ crc_fields p.1) bytes []) g.1
    (Takes-then (bytes_of (take n bytes)) (crc_fields (big_endian_splice_number rest)) bytes rest [] (bytes_taken n bytes fits) last)

abbrev Tail : Type 0
Tail = List ℕ × List ℕ × ℕ

tail_takes : (bytes : List ℕ) (t : Tail) → IsBytes bytes → tail_at bytes ≡ Ok t → Takes (tail_fields t.0 t.1 t.2) bytes []
unfolding tail_at
tail_takes bytes t fits e =
    let a = bind_ok (number_at 2 bytes) (λ count. bytes_at count.0 count.1 >>= λ descriptors. ending_at descriptors.1 >>= λ ending. Ok (descriptors.0, ending.0, ending.1)) t e in
    let b = bind_ok (bytes_at a.0.0 a.0.1) (λ descriptors. ending_at descriptors.1 >>= λ ending. Ok (descriptors.0, ending.0, ending.1)) t a.2 in
    let d = bind_ok (ending_at b.0.1) (λ ending. Ok (b.0.0, ending.0, ending.1)) t b.2 in
    let n = a.0.0 in
    let read = number_takes 2 bytes n a.0.1 fits a.1 in
    let below : n < 2 ^ 16 = read.below in
    let g = guard_ok (ltb (length a.0.1) n) CommandLength (take n a.0.1, drop n a.0.1) b.0 b.1 in
    let long : n ≤ length a.0.1 = ltb-false _ _ g.0 in
    let len : length (take n a.0.1) ≡ n = omega (arith, length-take n a.0.1) in
    let ds-is : take n a.0.1 ≡ b.0.0 = ap (λ (p : List ℕ × List ℕ). p.0) g.1 in
    let rest-is : drop n a.0.1 ≡ b.0.1 = ap (λ (p : List ℕ × List ℕ). p.1) g.1 in
    let len-ds : length b.0.0 ≡ n = ap length (sym ds-is) ∙ len in
    let count : Takes (count_fields b.0.0) bytes a.0.1 = group_takes 2 (count_fields b.0.0) bytes n a.0.1 read refl (omega arith, omega arith) in
    let taken : Takes (bytes_of b.0.0) a.0.1 b.0.1 = subst (λ (p : List ℕ × List ℕ). Takes (bytes_of p.0) a.0.1 p.1) g.1 (bytes_taken n a.0.1 read.rest_fits) in
    let ending = ending_takes b.0.1 d.0.0 d.0.1 taken.rest_fits d.1 in
    let two = Takes-then (count_fields b.0.0) (bytes_of b.0.0) bytes a.0.1 b.0.1 count taken in
    let all = Takes-then (count_fields b.0.0 ++ bytes_of b.0.0) (bytes_of d.0.0 ++ crc_fields d.0.1) bytes b.0.1 [] two ending in
    let regrouped : count_fields b.0.0 ++ bytes_of b.0.0 ++ (bytes_of d.0.0 ++ crc_fields d.0.1) ≡ tail_fields b.0.0 d.0.0 d.0.1 = sym (append_assoc (count_fields b.0.0 ++ bytes_of b.0.0) (bytes_of d.0.0) (crc_fields d.0.1)) in
    let made : Tail = (b.0.0, d.0.0, d.0.1) in
    subst (λ (x : Tail). Takes (tail_fields x.0 x.1 x.2) bytes []) {x = made} (ok_is made t d.2)
    (subst (λ (fs : List BitField). Takes fs bytes []) regrouped all)

ending_again : (st : List ℕ) (crc : ℕ) (bytes : List ℕ) → Lies (bytes_of st ++ crc_fields crc) bytes → ending_at bytes ≡ Ok (st, crc)
unfolding ending_at
ending_again st crc bytes lies =
    let len : length bytes ≡ length st + 4 = omega (arith, lies.holds.count, width-append (bytes_of st) (crc_fields crc), width_of_bytes st) in
    let short : ltb (length bytes) 4 ≡ false = le-ltb _ _ (omega arith) in
    let n : length bytes - 4 ≡ length st = omega arith in
    let p = parts (length st) (bytes_of st) (crc_fields crc) bytes (sym (width_of_bytes st)) lies in
    let front : take (length st) bytes ≡ st = bytes_are st (take (length st) bytes) p.1.0 in
    let last : big_endian_splice_number (drop (length st) bytes) ≡ crc = omega (arith, p.1.1.holds.split.0) in
    rw (short, n, front, last) refl

tail_again : (ds st : List ℕ) (crc : ℕ) (bytes : List ℕ) → Lies (tail_fields ds st crc) bytes → tail_at bytes ≡ Ok (ds, st, crc)
unfolding tail_at
tail_again ds st crc bytes lies =
    let regrouped : tail_fields ds st crc ≡ count_fields ds ++ (bytes_of ds ++ (bytes_of st ++ crc_fields crc)) = simp append_assoc in
    let g = group_again 2 (count_fields ds) (bytes_of ds ++ (bytes_of st ++ crc_fields crc)) bytes refl (subst (λ (fs : List BitField). Lies fs bytes) regrouped lies) in
    let count : g.value ≡ length ds = omega (arith, g.split.0) in
    let p = parts (length ds) (bytes_of ds) (bytes_of st ++ crc_fields crc) g.again.rest (sym (width_of_bytes ds)) g.again.lies in
    let short : ltb (length g.again.rest) (length ds) ≡ false = le-ltb _ _ p.0 in
    let front : take (length ds) g.again.rest ≡ ds = bytes_are ds (take (length ds) g.again.rest) p.1.0 in
    let ending = ending_again st crc (drop (length ds) g.again.rest) p.1.1 in
    rw (g.again.is, count, short, front, ending) refl

-- ---- Fields at a place

at_takes : (start count : ℕ) (fields : List BitField) (bytes : List ℕ) → IsBytes bytes → start + count ≤ length bytes → 8 * count ≡ width fields → Splits IsRead fields (splice_number_in start count bytes) → Takes fields (drop start bytes) (drop (start + count) bytes)
at_takes start count fields bytes fits long size split =
    let here = drop start bytes in
    let here_fits = IsBytes-drop start bytes fits in
    let len : length (take count here) ≡ count = omega (arith, length-take count here, length-drop start bytes) in
    record {
      front = take count here;
      whole = sym (take-append-drop count here) ∙ ap (λ (x : List ℕ). take count here ++ x) (drop-drop count start bytes);
      front_fits = IsBytes-take count here here_fits;
      rest_fits = IsBytes-drop (start + count) bytes fits;
      holds = record { count = ap (λ (k : ℕ). 8 * k) len ∙ size; split = split };
    }

record At (start count : ℕ) (fields after : List BitField) (bytes : List ℕ) : Type 0 where
  pub split : Splits IsRead fields (splice_number_in start count bytes)
  pub below : splice_number_in start count bytes < 2 ^ (8 * count)
  pub lies : Lies after (drop (start + count) bytes)

at_again : (start count : ℕ) (fields after : List BitField) (bytes : List ℕ) → 8 * count ≡ width fields → Lies (fields ++ after) (drop start bytes) → At start count fields after bytes
at_again start count fields after bytes size lies =
    let p = parts count fields after (drop start bytes) size lies in
    record {
      split = p.1.0.holds.split;
      below = number_fits (take count (drop start bytes)) (8 * count) p.1.0.fits (p.1.0.holds.count ∙ sym size);
      lies = subst (λ (x : List ℕ). Lies after x) (drop-drop count start bytes) p.1.1;
    }

-- ---- The section

abbrev table_fields : List BitField
table_fields = (8, Is 0xFC) ∷ []

abbrev length_fields : ℕ → List BitField
length_fields n = (1, Reserved 0) ∷ (1, Reserved 0) ∷ (2, Reserved 3) ∷ (12, Is n) ∷ []

abbrev protocol_fields : List BitField
protocol_fields = (8, Is 0) ∷ []

abbrev adjustment_fields : ℕ → List BitField
adjustment_fields n = (1, Is 0) ∷ (6, Reserved 0) ∷ (33, Is n) ∷ []

abbrev byte_fields : ℕ → List BitField
byte_fields n = (8, Is n) ∷ []

abbrev tier_fields : ℕ → ℕ → List BitField
tier_fields tier n = (12, Is tier) ∷ (12, Is n) ∷ []

abbrev begins : Section → ℕ → List BitField
begins s n = protocol_fields ++ adjustment_fields s.pts_adjustment ++ byte_fields s.cw_index ++ tier_fields s.tier n ++ byte_fields (type_of_splice_command s.command)

after-regrouped : (s : Section) (n : ℕ) → begins s n ++ command_fields s.command ++ tail_fields s.descriptors s.stuffing s.crc ≡ after_length s n
unfolding after_length
after-regrouped s n = refl

pub width-after : (s : Section) (n : ℕ) → width (after_length s n) ≡ 136 + width (command_fields s.command) + 8 * length s.descriptors + 8 * length s.stuffing
unfolding after_length
width-after s n = grind (arith, width-append, width_of_bytes)

below_at : (start count : ℕ) (bytes : List ℕ) → IsBytes bytes → start + count ≤ length bytes → splice_number_in start count bytes < 2 ^ (8 * count)
below_at start count bytes fits long = grind (arith, common_steps, nat_tests, length-drop, length-take, number_fits)

abbrev made_of : List ℕ → Command → Tail → Section
made_of bytes command tail = record {
  pts_adjustment = splice_number_in 4 5 bytes % 2 ^ 33;
  cw_index = splice_number_in 9 1 bytes;
  tier = splice_number_in 10 3 bytes / 2 ^ 12;
  command = command;
  descriptors = tail.0;
  stuffing = tail.1;
  crc = tail.2;
}

-- the bytes from the fourth to the command
head_takes : (bytes : List ℕ) (s : Section) → IsBytes bytes → 20 ≤ length bytes → splice_number_in 3 1 bytes ≡ 0 → splice_bit 39 (splice_number_in 4 5 bytes) ≡ false
    → s.pts_adjustment ≡ splice_number_in 4 5 bytes % 2 ^ 33 → s.cw_index ≡ splice_number_in 9 1 bytes → s.tier ≡ splice_number_in 10 3 bytes / 2 ^ 12 → type_of_splice_command s.command ≡ splice_number_in 13 1 bytes
    → Takes (begins s (splice_number_in 10 3 bytes % 2 ^ 12)) (drop 3 bytes) (drop 14 bytes)
head_takes bytes s fits long protocol clear pts cw tier kind =
    let n5 = splice_number_in 4 5 bytes in
    let below5 : n5 < 2 ^ 40 = below_at 4 5 bytes fits (omega arith) in
    let not_one = eqb-false (n5 / 2 ^ 39 % 2) 1 clear in
    let high : n5 / 2 ^ 39 ≡ 0 = elim (cases_lt (n5 / 2 ^ 39) 1) [ inl lt ↦ omega arith | inr ge ↦ absurd (not_one (omega arith)) ] in
    let n3 = splice_number_in 10 3 bytes in
    let below3 : n3 < 2 ^ 24 = below_at 10 3 bytes fits (omega arith) in
    let a1 = at_takes 3 1 protocol_fields bytes fits (omega arith) refl (omega arith, omega arith) in
    let a2 = at_takes 4 5 (adjustment_fields s.pts_adjustment) bytes fits (omega arith) refl (high, (tt, (omega arith, omega arith))) in
    let a3 = at_takes 9 1 (byte_fields s.cw_index) bytes fits (omega arith) refl (omega arith, omega arith) in
    let a4 = at_takes 10 3 (tier_fields s.tier (n3 % 2 ^ 12)) bytes fits (omega arith) refl (sym tier, (omega arith, omega arith)) in
    let a5 = at_takes 13 1 (byte_fields (type_of_splice_command s.command)) bytes fits (omega arith) refl (omega arith, omega arith) in
    let b2 = Takes-then protocol_fields (adjustment_fields s.pts_adjustment) (drop 3 bytes) (drop 4 bytes) (drop 9 bytes) a1 a2 in
    let b3 = Takes-then (protocol_fields ++ adjustment_fields s.pts_adjustment) (byte_fields s.cw_index) (drop 3 bytes) (drop 9 bytes) (drop 10 bytes) b2 a3 in
    let b4 = Takes-then (protocol_fields ++ adjustment_fields s.pts_adjustment ++ byte_fields s.cw_index) (tier_fields s.tier (n3 % 2 ^ 12)) (drop 3 bytes) (drop 10 bytes) (drop 13 bytes) b3 a4 in
    Takes-then (protocol_fields ++ adjustment_fields s.pts_adjustment ++ byte_fields s.cw_index ++ tier_fields s.tier (n3 % 2 ^ 12)) (byte_fields (type_of_splice_command s.command)) (drop 3 bytes) (drop 13 bytes) (drop 14 bytes) b4 a5

-- the whole, if all after section_length is there
whole_is : (s : Section) (n : ℕ) (bytes : List ℕ) → IsBytes bytes → 20 ≤ length bytes → splice_number_in 0 1 bytes ≡ 0xFC → splice_number_in 1 2 bytes % 2 ^ 12 + 3 ≡ length bytes
    → Takes (after_length s n) (drop 3 bytes) [] → HoldsFields IsRead (splice_section_fields s n) bytes
unfolding splice_section_fields
whole_is s n bytes fits long table said after =
    let size : 8 * length (drop 3 bytes) ≡ width (after_length s n) = whole_width (after_length s n) (drop 3 bytes) after in
    let counted = width (after_length s n) / 8 in
    let is : splice_number_in 1 2 bytes % 2 ^ 12 ≡ counted = omega (arith, length-drop 3 bytes) in
    let a1 = at_takes 0 1 table_fields bytes fits (omega arith) refl (omega arith, omega arith) in
    let a2 = at_takes 1 2 (length_fields counted) bytes fits (omega arith) refl (tt, (tt, (tt, (omega arith, omega arith)))) in
    let b2 = Takes-then table_fields (length_fields counted) bytes (drop 1 bytes) (drop 3 bytes) a1 a2 in
    let all = Takes-then (table_fields ++ length_fields counted) (after_length s n) bytes (drop 3 bytes) [] b2 after in
    subst (λ (x : List ℕ). HoldsFields IsRead (splice_section_fields s n) x) (sym (all.whole ∙ append-nil all.front)) all.holds

contents_are : (bytes : List ℕ) (s : Section) → IsBytes bytes → 20 ≤ length bytes → splice_number_in 0 1 bytes ≡ 0xFC → splice_number_in 1 2 bytes % 2 ^ 12 + 3 ≡ length bytes
    → splice_number_in 3 1 bytes ≡ 0 → splice_bit 39 (splice_number_in 4 5 bytes) ≡ false → contents_of bytes ≡ Ok s → IsSection s bytes × (splice_command_fits s.command ≡ true)
unfolding contents_of
contents_are bytes s fits long table said protocol clear e =
    let n = splice_number_in 10 3 bytes % 2 ^ 12 in
    let kind = splice_number_in 13 1 bytes in
    let c = bind_ok (command_at n kind (drop 14 bytes)) (λ command. tail_at command.1 >>= λ tail. Ok (made_of bytes command.0 tail)) s e in
    let t = bind_ok (tail_at c.0.1) (λ tail. Ok (made_of bytes c.0.0 tail)) s c.2 in
    let made = made_of bytes c.0.0 t.0 in
    let command = command_takes n kind (drop 14 bytes) c.0.0 c.0.1 (IsBytes-drop 14 bytes fits) c.1 in
    let tail = tail_takes c.0.1 t.0 command.takes.rest_fits t.1 in
    let head = head_takes bytes made fits long protocol clear refl refl refl command.type_is in
    let two = Takes-then (begins made n) (command_fields c.0.0) (drop 3 bytes) (drop 14 bytes) c.0.1 head command.takes in
    let all = Takes-then (begins made n ++ command_fields c.0.0) (tail_fields t.0.0 t.0.1 t.0.2) (drop 3 bytes) c.0.1 [] two tail in
    let after : Takes (after_length made n) (drop 3 bytes) [] = subst (λ (fs : List BitField). Takes fs (drop 3 bytes) []) (after-regrouped made n) all in
    subst (λ (x : Section). IsSection x bytes × (splice_command_fits x.command ≡ true)) {x = made} (ok_is made s t.2)
    (record { command_length = n; stated = command.stated; proper = is_proper c.0.0 command.small; fields = whole_is made n bytes fits long table said after }, command.small)

reading_says : (bytes : List ℕ) (s : Section) → IsBytes bytes → reading bytes ≡ Ok s → IsSection s bytes × (splice_command_fits s.command ≡ true)
unfolding reading
reading_says bytes s fits e =
    let p1 = passed (ltb (length bytes) 20) _ _ s e in
    let p2 = passed (not (eqb (splice_number_in 0 1 bytes) 0xFC)) _ _ s p1.1 in
    let p3 = passed (not (eqb (splice_number_in 1 2 bytes % 2 ^ 12 + 3) (length bytes))) _ _ s p2.1 in
    let p4 = passed (not (eqb (splice_number_in 3 1 bytes) 0)) _ _ s p3.1 in
    let p5 = passed (splice_bit 39 (splice_number_in 4 5 bytes)) _ _ s p4.1 in
    contents_are bytes s fits (ltb-false _ _ p1.0) (eqb-true _ _ (not-false _ p2.0)) (eqb-true _ _ (not-false _ p3.0)) (eqb-true _ _ (not-false _ p4.0)) p5.0 p5.1

pub reading_is : (bytes : List ℕ) (s : Section) → IsBytes bytes → reading bytes ≡ Ok s → IsSection s bytes
reading_is bytes s fits e = (reading_says bytes s fits e).0

-- ---- And again

-- what follows section_length, a field group at a time
abbrev what_follows : Section → ℕ → List BitField
what_follows s n = begins s n ++ (command_fields s.command ++ tail_fields s.descriptors s.stuffing s.crc)

section-regrouped : (s : Section) (n : ℕ) → splice_section_fields s n ≡ table_fields ++ (length_fields (width (after_length s n) / 8) ++ what_follows s n)
unfolding splice_section_fields
section-regrouped s n = grind (arith, after-regrouped)

pub width-section : (s : Section) (n : ℕ) → width (splice_section_fields s n) ≡ 24 + width (after_length s n)
unfolding splice_section_fields
width-section s n = omega arith

-- what the first 14 bytes say
record Heads (s : Section) (n : ℕ) (bytes : List ℕ) : Type 0 where
  pub long : 20 ≤ length bytes
  pub table : splice_number_in 0 1 bytes ≡ 0xFC
  pub said : splice_number_in 1 2 bytes % 2 ^ 12 + 3 ≡ length bytes
  pub protocol : splice_number_in 3 1 bytes ≡ 0
  pub clear : splice_bit 39 (splice_number_in 4 5 bytes) ≡ false
  pub adjustment : splice_number_in 4 5 bytes % 2 ^ 33 ≡ s.pts_adjustment
  pub word : splice_number_in 9 1 bytes ≡ s.cw_index
  pub tier : splice_number_in 10 3 bytes / 2 ^ 12 ≡ s.tier
  pub command_length : splice_number_in 10 3 bytes % 2 ^ 12 ≡ n
  pub kind : splice_number_in 13 1 bytes ≡ type_of_splice_command s.command
  pub small : width (command_fields s.command) < 32760
  pub lies : Lies (command_fields s.command ++ tail_fields s.descriptors s.stuffing s.crc) (drop 14 bytes)

heads_are : (s : Section) (n : ℕ) (bytes : List ℕ) → Lies (splice_section_fields s n) bytes → Heads s n bytes
heads_are s n bytes lies =
    let contents = command_fields s.command ++ tail_fields s.descriptors s.stuffing s.crc in
    let counted = width (after_length s n) / 8 in
    let whole : Lies (table_fields ++ (length_fields counted ++ what_follows s n)) bytes = subst (λ (fs : List BitField). Lies fs bytes) (section-regrouped s n) lies in
    let a1 = at_again 0 1 table_fields (length_fields counted ++ what_follows s n) bytes refl whole in
    let a2 = at_again 1 2 (length_fields counted) (what_follows s n) bytes refl a1.lies in
    let pts = adjustment_fields s.pts_adjustment in
    let cw = byte_fields s.cw_index in
    let tier = tier_fields s.tier n in
    let kind = byte_fields (type_of_splice_command s.command) in
    let a3 = at_again 3 1 protocol_fields (pts ++ (cw ++ (tier ++ (kind ++ contents)))) bytes refl a2.lies in
    let a4 = at_again 4 5 pts (cw ++ (tier ++ (kind ++ contents))) bytes refl a3.lies in
    let a5 = at_again 9 1 cw (tier ++ (kind ++ contents)) bytes refl a4.lies in
    let a6 = at_again 10 3 tier (kind ++ contents) bytes refl a5.lies in
    let a7 = at_again 13 1 kind contents bytes refl a6.lies in
    let total : 8 * length bytes ≡ 24 + width (after_length s n) = lies.holds.count ∙ width-section s n in
    let parts_of = width-after s n in
    let n5 = splice_number_in 4 5 bytes in
    let below2 : splice_number_in 1 2 bytes < 2 ^ 16 = a2.below in
    let is_counted : splice_number_in 1 2 bytes % 2 ^ 12 ≡ counted = omega (arith, a2.split.1.1.1.0) in
    record {
      long = omega arith;
      table = omega (arith, a1.split.0);
      said = omega arith;
      protocol = omega (arith, a3.split.0);
      clear = test-flag (n5 / 2 ^ 39) false (omega (arith, a4.split.0));
      adjustment = omega (arith, a4.split.1.1.0);
      word = omega (arith, a5.split.0);
      tier = a6.split.0;
      command_length = omega (arith, a6.split.1.0);
      kind = omega (arith, a7.split.0);
      small = omega arith;
      lies = a7.lies;
    }

contents_again : (s : Section) (n : ℕ) (bytes : List ℕ) → StatesLength s.command n → IsProper s.command → Heads s n bytes → contents_of bytes ≡ Ok s
unfolding contents_of
contents_again s n bytes stated proper h =
    let tail = tail_fields s.descriptors s.stuffing s.crc in
    let c = command_again s.command n tail (drop 14 bytes) stated proper h.small h.lies in
    let t = tail_again s.descriptors s.stuffing s.crc c.rest c.lies in
    rw (h.command_length, h.kind, c.is, t, h.adjustment, h.word, h.tier) refl

pub is_read : (bytes : List ℕ) (s : Section) → IsBytes bytes → IsSection s bytes → reading bytes ≡ Ok s
unfolding reading
is_read bytes s fits is = grind (arith, contents_again, heads_are)

pub one_value : (bytes : List ℕ) (s t : Section) → IsBytes bytes → IsSection s bytes → IsSection t bytes → s ≡ t
one_value bytes s t fits p q = ok_is s t (sym (is_read bytes s fits p) ∙ is_read bytes t fits q)

pub is_found : (bytes : List ℕ) (result : Result SpliceInfo SpliceFault) → IsBytes bytes → GivesOrSpliceFault section_of result (reading bytes) → IfOk result (λ info. IsSection (section_of info) bytes)
is_found bytes (Ok info) fits gives = reading_is bytes (section_of info) fits gives
is_found bytes (Err fault) fits gives = tt

-- ---- What has a section may be written

pub has_one : (s : Section) (bytes : List ℕ) → IsBytes bytes → length bytes ≤ 4096 → IsSection s bytes → has_splice_section s ≡ true
unfolding has_splice_section
has_one s bytes small_bytes short is =
    let n = is.command_length in
    let lies : Lies (splice_section_fields s n) bytes = record { fits = small_bytes; holds = is.fields } in
    let h = heads_are s n bytes lies in
    let below : splice_number_in 10 3 bytes < 2 ^ 24 = below_at 10 3 bytes small_bytes (omega (arith, h.long)) in
    let adjustment : fits_bits 33 s.pts_adjustment ≡ true = lt-ltb s.pts_adjustment (2 ^ 33) (omega (arith, h.adjustment)) in
    let tier : fits_bits 12 s.tier ≡ true = lt-ltb s.tier (2 ^ 12) (omega (arith, h.tier)) in
    let command = (reading_says bytes s small_bytes (is_read bytes s small_bytes is)).1 in
    let total : 8 * length bytes ≡ 24 + width (after_length s n) = is.fields.count ∙ width-section s n in
    let counted : splice_section_length s ≤ 4093 = omega (arith, width-after s n, width-after s (command_length s)) in
    and_from (fits_bits 33 s.pts_adjustment && fits_bits 12 s.tier && splice_command_fits s.command) (nat_le (splice_section_length s) 4093)
    (and_from (fits_bits 33 s.pts_adjustment && fits_bits 12 s.tier) (splice_command_fits s.command) (and_from (fits_bits 33 s.pts_adjustment) (fits_bits 12 s.tier) adjustment tier) command)
    (le-leb (splice_section_length s) 4093 counted)
