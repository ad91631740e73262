-- Sections of hexadecimal text.
use Rattle.std.proofs.Common.{◌≡◌, ℕ, zero, suc, ◌+◌, ◌*◌, ◌/◌, ◌%◌, ◌≤◌, true, cond, not, eqb, List, [], ◌∷◌, length, take, drop, Result, Ok, Err, refl, sym, ap, ◌∙◌, inl, inr, arith}
use Rattle.std.specs.List.{list_all}
use Rattle.std.specs.Char.{is_ascii_hexdigit}
use Rattle.std.specs.Prelude.{◌&&◌, ◌⊎◌, MatchResult, IfOk, min}
use Rattle.std.proofs.lemmas.Bool.{cases_lt, and_parts, and_from, eqb-true, eq-eqb}
use Rattle.std.proofs.lemmas.List.Folds.{list_all-append}
use Rattle.std.proofs.lemmas.List.{length-take, take-append-drop, take_all}
use Rattle.std.proofs.lemmas.List.Sums.{AllPass-from_list_all}
use Rattle.std.proofs.lemmas.Grind.{common_steps}
use Rattle.hex.specs.declared.error.FromHexError.{FromHexError}
use Rattle.hex.specs.Hex.{◌>>=◌, decode_pairs, decode_of, decode_sized, pair_value, is_hex_digit}
use Rattle.hex.proofs.HexLemmas.{decode_of-ok, decode_of-digits}
use Rattle.scte35_codec.specs.declared.fault.SpliceFault.{SpliceFault}
use Rattle.scte35_codec.specs.declared.fault.SpliceFault.TheVariants.{TableId, Length}
use Rattle.scte35_codec.specs.declared.info.SpliceInfo.{SpliceInfo}
use Rattle.scte35_codec.specs.Section.{Section, section_of, IsSection}
use Rattle.scte35_codec.proofs.Takes.{bind_ok}
use Rattle.scte35_codec.proofs.Whole.{reading_is, is_read}
use Rattle.scte35_codec.specs.Layout.{IsBytes}
use Rattle.scte35_codec.specs.Reading.{GivesOrSpliceFault, splice_number_in, reading}
use Rattle.scte35_codec.specs.Hexadecimal.{are_pairs, hex_bytes, reading_hex}
use Rattle.scte35_codec.specs.Inner.Hexadecimal.{reading_digits}

-- a digit in the sense of `u8::is_ascii_hexdigit` is one in the sense of `hex`
digit-same : (c : ℕ) → is_ascii_hexdigit c ≡ true → is_hex_digit c ≡ true
digit-same c h = grind arith

pub all_digits : (digits : List ℕ) → list_all is_ascii_hexdigit digits ≡ true → list_all is_hex_digit digits ≡ true
all_digits [] h = refl
all_digits (c ∷ cs) h =
    let both = and_parts (is_ascii_hexdigit c) (list_all is_ascii_hexdigit cs) h in
    and_from (is_hex_digit c) (list_all is_hex_digit cs) (digit-same c both.0) (all_digits cs both.1)

-- more bytes than a section can have are refused for what is in the first three
long_reading : (xs : List ℕ) → 4099 ≤ length xs → reading xs ≡ cond (not (eqb (splice_number_in 0 1 xs) 0xFC)) (Err TableId) (Err Length)
unfolding reading
long_reading xs long = grind arith

pub front_reading : (xs : List ℕ) (n : ℕ) → 4099 ≤ n → n ≤ length xs → reading (take n xs) ≡ reading xs
front_reading xs n le long = grind (arith, length-take, long_reading)

step_ok : {A B : Type 0} (r : Result A FromHexError) (f : A → Result B FromHexError) (y : B) → (r >>= f) ≡ Ok y → (x : A) × (r ≡ Ok x) × (f x ≡ Ok y)
step_ok (Ok x) f y e = (x, refl, e)
step_ok (Err d) f y e = absurd cc

abbrev good : List ℕ → Result (List ℕ) SpliceFault
good bytes = Ok bytes

is_same : (xs ys : List ℕ) → good xs ≡ good ys → xs ≡ ys
is_same xs ys e = cc

abbrev done : List ℕ → Result (List ℕ) FromHexError
done bytes = Ok bytes

ok_is : (xs ys : List ℕ) → done xs ≡ done ys → xs ≡ ys
ok_is xs ys e = cc

two_more : (k : ℕ) → 2 * suc k ≡ suc (suc (2 * k))
two_more k = omega arith

pairs_front : (i k : ℕ) (s bytes : List ℕ) → decode_pairs i s ≡ Ok bytes → decode_pairs i (take (2 * k) s) ≡ Ok (take k bytes)
unfolding decode_pairs
pairs_front i zero s bytes e = refl
pairs_front i (suc k) [] bytes e = grind (arith, common_steps)
pairs_front i (suc k) (a ∷ []) bytes e = absurd cc
pairs_front i (suc k) (a ∷ b ∷ s) bytes e =
    let first = step_ok (pair_value a b i) (λ byte. decode_pairs (i + 2) s >>= λ bs. Ok (byte ∷ bs)) bytes e in
    let others = step_ok (decode_pairs (i + 2) s) (λ bs. Ok (first.0 ∷ bs)) bytes first.2 in
    let front = pairs_front (i + 2) k s others.0 others.1 in
    rw (two_more, first.1, front) (ap (λ (bs : List ℕ). done (take (suc k) bs)) (ok_is (first.0 ∷ others.0) bytes others.2))

-- the bytes of a front of some digits
pub front_of : (digits bytes : List ℕ) (k : ℕ) → decode_of digits ≡ Ok bytes → 2 * k ≤ length digits → decode_of (take (2 * k) digits) ≡ Ok (take k bytes)
front_of digits bytes k e long = grind (arith, length-take, pairs_front)

-- pairs of digits have bytes
pub pairs_decode : (digits : List ℕ) → are_pairs digits ≡ true → (bytes : List ℕ) × (decode_of digits ≡ Ok bytes) × (length digits ≡ 2 * length bytes)
pairs_decode digits h = grind (arith, AllPass-from_list_all, decode_of-digits, decode_of-ok, eqb-true)

-- so many of the bytes that none is missed, or that they are too many
pub front_says : (digits bytes : List ℕ) (k : ℕ) → decode_of digits ≡ Ok bytes → (k ≡ length bytes) ⊎ ((4099 ≤ k) × (k ≤ length bytes)) → reading_digits digits ≡ reading (take k bytes)
front_says digits bytes k e (inl whole) = rw (e, take_all k bytes (omega arith)) refl
front_says digits bytes k e (inr many) = rw e (sym (front_reading bytes k many.0 many.1))

-- decoding pairs of digits into room for each byte
pub decodes : (digits : List ℕ) (room : ℕ) (r : Result (Unit {0}) FromHexError) (out : List ℕ) → are_pairs digits ≡ true → length digits ≡ 2 * room
    → MatchResult (decode_sized digits room) (λ bytes. (r ≡ Ok tt) × (out ≡ bytes)) (λ e. r ≡ Err e) → (r ≡ Ok tt) × (decode_of digits ≡ Ok out)
decodes digits room r out pairs len is = grind (arith, pairs_decode)

pub pairs_in_front : (digits : List ℕ) (k : ℕ) → are_pairs digits ≡ true → 2 * k ≤ length digits → are_pairs (take (2 * k) digits) ≡ true
pairs_in_front digits k pairs long =
    let both = and_parts (eqb (length digits % 2) 0) (list_all is_ascii_hexdigit digits) pairs in
    let len : length (take (2 * k) digits) ≡ 2 * k = omega (arith, length-take (2 * k) digits) in
    let split : list_all is_ascii_hexdigit digits ≡ list_all is_ascii_hexdigit (take (2 * k) digits) && list_all is_ascii_hexdigit (drop (2 * k) digits) =
    ap (list_all is_ascii_hexdigit) (sym (take-append-drop (2 * k) digits)) ∙ list_all-append is_ascii_hexdigit (take (2 * k) digits) (drop (2 * k) digits) in
    let front = and_parts (list_all is_ascii_hexdigit (take (2 * k) digits)) (list_all is_ascii_hexdigit (drop (2 * k) digits)) (sym split ∙ both.1) in
    and_from (eqb (length (take (2 * k) digits) % 2) 0) (list_all is_ascii_hexdigit (take (2 * k) digits)) (eq-eqb _ _ (omega arith)) front.0

-- what a front of pairs of digits was decoded to says what they all say
pub decoded_says : (digits : List ℕ) (k : ℕ) (out : List ℕ) → are_pairs digits ≡ true → k ≡ min (length digits / 2) 4099 → decode_of (take (2 * k) digits) ≡ Ok out → reading out ≡ reading_digits digits
decoded_says digits k out pairs count is =
    let d = pairs_decode digits pairs in
    let front = front_of digits d.0 k d.1 (omega (arith, d.2)) in
    let whole : (k ≡ length d.0) ⊎ ((4099 ≤ k) × (k ≤ length d.0)) = elim (cases_lt (length d.0) 4099) [ inl few ↦ inl (omega (arith, d.2)) | inr many ↦ inr (omega (arith, d.2), omega (arith, d.2)) ] in
    ap reading (ok_is out (take k d.0) (sym is ∙ front)) ∙ sym (front_says digits d.0 k d.1 whole)

hex_bytes_fit : (text bytes : List ℕ) → hex_bytes text ≡ Ok bytes → IsBytes bytes
unfolding hex_bytes
hex_bytes_fit text bytes e = grind (arith, common_steps, bind_ok, decode_of-ok)

abbrev pub Says : List ℕ → Section → Type 0
Says text s = (bytes : List ℕ) × (hex_bytes text ≡ Ok bytes) × IsSection s bytes

pub hex_is : (text : List ℕ) (s : Section) → reading_hex text ≡ Ok s → Says text s
unfolding reading_hex
hex_is text s e = grind (arith, hex_bytes_fit, reading_is)

pub hex_found : (text : List ℕ) (result : Result SpliceInfo SpliceFault) → GivesOrSpliceFault section_of result (reading_hex text) → IfOk result (λ info. Says text (section_of info))
hex_found text (Ok info) gives = hex_is text (section_of info) gives
hex_found text (Err fault) gives = tt

pub hex_again : (text bytes : List ℕ) (s : Section) → hex_bytes text ≡ Ok bytes → IsSection s bytes → reading_hex text ≡ Ok s
unfolding reading_hex
hex_again text bytes s e is = rw e (is_read bytes s (hex_bytes_fit text bytes e) is)
