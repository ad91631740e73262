-- The parts of a key and of a section, if they fit, are written as attributes.
use Rattle.std.proofs.Common.{◌≡◌, ℕ, ◌^◌, ◌<◌, ◌+◌, Bool, true, false, not, cond, List, [], ◌∷◌, ◌++◌, length, refl, ap, sym, ◌∙◌, subst, append_assoc, append-nil, arith}
use Rattle.std.specs.Prelude.{Option, codes, bytes_eq, decimal, ◌&&◌}
use Rattle.std.specs.List.{list_any}
use Rattle.std.specs.Char.{is_ascii_hexdigit}
use Rattle.std.proofs.lemmas.Bool.{and_parts, and_from, or_parts, or_from, not-true, ltb-true, lt-ltb, false_from_ne_true, both_ways}
use Rattle.std.proofs.lemmas.Bool.Decides.{nat_tests}
use Rattle.std.proofs.lemmas.List.Folds.{list_any-append}
use Rattle.std.proofs.lemmas.Slice.Eq.{bytes_eq-Decides}
use Rattle.attr_list.specs.Attributes.{Pair, is_name, is_value, is_quote, ends_plain, is_named, is_pair, are_apart, are_attributes, attributes_text}
use Rattle.attr_list.proofs.Elements.{none_from}
use Rattle.playlist_model.specs.declared.Key.{Key}
use Rattle.playlist_model.specs.declared.ByteRange.{ByteRange}
use Rattle.playlist_model.specs.Carried.{is_key_attribute}
use Rattle.date_times.specs.Digits.{fixed_digits}
use Rattle.playlist_write.specs.Spelling.{unquoted_pair, in_quotes, iv_text, iv_pairs, format_pairs, own_pairs, key_text, init_section_pairs, byte_range_text}
use Rattle.writable.specs.Fitting.{if_some, is_clean, value_fits, quoted_uri_fits, byte_range_fits, iv_is_writable, key_is_writable}
use Rattle.playlist_write.proofs.OtherFields.{IsOther, OtherPairs, other_pairs, is_other, others_after}
use Rattle.playlist_write.proofs.WrittenNumbers.{is_number_byte, decimal_bytes, hex_bytes}

-- ---- the parts of a key that fits

pub record KeyParts (k : Key) : Type 0 where
  pub format : value_fits true k.format ≡ true
  pub method : value_fits false k.method ≡ true
  pub not_none : bytes_eq k.method (codes "NONE") ≡ false
  pub uri : quoted_uri_fits k.uri ≡ true
  pub iv : if_some iv_is_writable k.iv ≡ true
  pub clean : is_clean k.other_attributes ≡ true
  pub others : OtherPairs k.other_attributes

pub key_parts : (k : Key) → key_is_writable k ≡ true → KeyParts k
key_parts k h = grind (arith, and_parts, not-true, other_pairs)

-- ---- values

value_is : (quoted : Bool) (value : List ℕ) → value_fits quoted value ≡ true → is_value quoted value ≡ true
value_is quoted value h = grind arith

hex_is_plain : (b : ℕ) → is_ascii_hexdigit b ≡ true → ends_plain b ≡ false
hex_is_plain b h = grind (arith, nat_tests)

plain_is : (b : ℕ) (rest : List ℕ) → list_any ends_plain (b ∷ rest) ≡ false → is_value false (b ∷ rest) ≡ true
plain_is b rest h = and_from _ _ (lt-ltb 0 (length (b ∷ rest)) (omega arith)) (ap not h)

iv_is_value : (iv : ℕ) → iv_is_writable iv ≡ true → is_value false (iv_text iv) ≡ true
iv_is_value iv h =
    plain_is 48 (120 ∷ fixed_digits 16 32 iv) (or_from (ends_plain 48) _ refl (or_from (ends_plain 120) _ refl (none_from is_ascii_hexdigit ends_plain (fixed_digits 16 32 iv) (hex_bytes iv (ltb-true _ _ h)) hex_is_plain)))

number_is_quoted : (b : ℕ) → is_number_byte b ≡ true → is_quote b ≡ false
number_is_quoted b h = grind (arith, nat_tests)

byte_range_is_value : (byte_range : ByteRange) → byte_range_fits byte_range ≡ true → is_value true (byte_range_text byte_range.length byte_range.offset) ≡ true
byte_range_is_value byte_range h = by byte_range.length byte_range.offset (ltb-true _ _ h)
  where
    by : (n o : ℕ) → n + o < 2 ^ 64 → is_value true (byte_range_text n o) ≡ true
    by n o l =
        let a = none_from is_number_byte is_quote (decimal n) (decimal_bytes n (omega arith)) number_is_quoted in
        let b = none_from is_number_byte is_quote (decimal o) (decimal_bytes o (omega arith)) number_is_quoted in
        ap not (list_any-append is_quote (decimal n) (64 ∷ decimal o) ∙ or_from _ _ a b)

-- ---- attributes with names apart

more_apart : (before later : List Pair) (pair : Pair) → is_pair pair ≡ true → list_any (is_named pair.name) before ≡ false → are_apart (before ++ pair ∷ []) later ≡ true → are_apart before (pair ∷ later) ≡ true
more_apart before later pair p n h = and_from _ _ (and_from _ _ p (ap not n)) h

pair_is : (name value : List ℕ) (quoted : Bool) → is_name name ≡ true → is_value quoted value ≡ true → is_pair (record { name = name; value = value; quoted = quoted }) ≡ true
pair_is name value quoted n v = and_from (is_name name) (is_value quoted value) n v

turned : (a b : List ℕ) → bytes_eq a b ≡ false → bytes_eq b a ≡ false
turned a b h = grind (arith, false_from_ne_true, both_ways, bytes_eq-Decides)

-- pairs that are apart are so after pairs of whose names they have none
after_others : (before mid others : List Pair) → list_any is_key_attribute others ≡ false → ((pair : Pair) → IsOther pair → list_any (is_named pair.name) before ≡ false)
    → are_apart mid others ≡ true → are_apart (before ++ mid) others ≡ true
after_others before mid [] n f h = refl
after_others before mid (pair ∷ others) n f h =
    let b = or_parts _ _ n in
    let a : ((is_pair pair && not (list_any (is_named pair.name) mid)) ≡ true) × (are_apart (mid ++ pair ∷ []) others ≡ true) = and_parts _ _ h in
    let c : (is_pair pair ≡ true) × (not (list_any (is_named pair.name) mid) ≡ true) = and_parts _ _ a.0 in
    more_apart (before ++ mid) others pair c.0 (list_any-append (is_named pair.name) before mid ∙ or_from _ _ (f pair (is_other pair b.0)) (not-true _ c.1))
    (subst (λ ps. are_apart ps others ≡ true) (sym (append_assoc before mid (pair ∷ []))) (after_others before (mid ++ pair ∷ []) others b.1 f a.1))

others_apart : (before others : List Pair) → list_any is_key_attribute others ≡ false → are_attributes others ≡ true → ((pair : Pair) → IsOther pair → list_any (is_named pair.name) before ≡ false) → are_apart before others ≡ true
others_apart before others n h f = subst (λ ps. are_apart ps others ≡ true) (append-nil before) (after_others before [] others n f h)

-- ---- a key's attributes

abbrev method_pair : List ℕ → Pair
method_pair method = unquoted_pair (codes "METHOD") method

abbrev uri_pair : List ℕ → Pair
uri_pair uri = in_quotes (codes "URI") uri

abbrev format_pair : List ℕ → Pair
format_pair format = in_quotes (codes "KEYFORMAT") format

-- the format's attribute if it is written, and the others after these
after_iv : (b : Bool) (before : List Pair) (format : List ℕ) (others : List Pair) → is_value true format ≡ true → list_any is_key_attribute others ≡ false → are_attributes others ≡ true
    → list_any (is_named (codes "KEYFORMAT")) before ≡ false → ((pair : Pair) → IsOther pair → list_any (is_named pair.name) before ≡ false)
    → are_apart before (cond b [] (format_pair format ∷ []) ++ others) ≡ true
after_iv b before format others v h d n f = grind (arith, others_apart, more_apart, pair_is, list_any-append, or_from, turned)

after_uri : (iv : Option ℕ) (b : Bool) (method uri format : List ℕ) (others : List Pair) → if_some iv_is_writable iv ≡ true → is_value true format ≡ true → list_any is_key_attribute others ≡ false → are_attributes others ≡ true
    → are_apart (method_pair method ∷ uri_pair uri ∷ []) (iv_pairs iv ++ (cond b [] (format_pair format ∷ []) ++ others)) ≡ true
after_uri iv b method uri format others i v h d = grind (arith, after_iv, or_from, turned, more_apart, pair_is, iv_is_value)

quoted_uri_is : (uri : List ℕ) → quoted_uri_fits uri ≡ true → is_value true uri ≡ true
quoted_uri_is uri h = value_is true uri (and_parts _ _ h).0

-- all of a key's attributes: its own, and the others
abbrev pub key_pairs : Key → List Pair → List Pair
key_pairs k others = method_pair k.method ∷ uri_pair k.uri ∷ (iv_pairs k.iv ++ (format_pairs k.format ++ others))

pairs_apart : (k : Key) (others : List Pair) → KeyParts k → list_any is_key_attribute others ≡ false → are_attributes others ≡ true → are_attributes (key_pairs k others) ≡ true
pairs_apart k others h n a = grind (arith, more_apart, pair_is, value_is, quoted_uri_is, after_uri)

pub key_attributes : (k : Key) (h : KeyParts k) → are_attributes (key_pairs k h.others.pairs) ≡ true
key_attributes k h = pairs_apart k h.others.pairs h h.others.none_own h.others.apart

pub own_attributes : (k : Key) → KeyParts k → are_attributes (own_pairs k) ≡ true
own_attributes k h =
    subst (λ ps. are_attributes (method_pair k.method ∷ uri_pair k.uri ∷ (iv_pairs k.iv ++ ps)) ≡ true) (append-nil (format_pairs k.format)) (pairs_apart k [] h refl refl)

-- they stand in one list
pub key_text_is : (k : Key) (h : KeyParts k) → key_text k ≡ attributes_text (key_pairs k h.others.pairs)
key_text_is k h =
    let method = method_pair k.method in let rest = iv_pairs k.iv ++ format_pairs k.format in
    ap (λ t. attributes_text (own_pairs k) ++ t) h.others.spelled ∙ others_after method (uri_pair k.uri ∷ rest) h.others.pairs
    ∙ ap (λ ps. attributes_text (method ∷ uri_pair k.uri ∷ ps)) (append_assoc (iv_pairs k.iv) (format_pairs k.format) h.others.pairs)

-- ---- a section's attributes

pub init_section_attributes : (uri : List ℕ) (part : Option ByteRange) → quoted_uri_fits uri ≡ true → if_some byte_range_fits part ≡ true → are_attributes (init_section_pairs uri part) ≡ true
init_section_attributes uri part h g = grind (arith, more_apart, pair_is, quoted_uri_is, byte_range_is_value)
