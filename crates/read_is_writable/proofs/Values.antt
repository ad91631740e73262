-- What the values of keys, sections, ranges and URIs are that are read.
use Rattle.std.proofs.Common.{◌≡◌, ℕ, Bool, true, false, cond, List, refl, ap, sym, ◌∙◌, arith}
use Rattle.std.specs.Prelude.{Ok, Err, Option, Some, unwrap_or, codes}
use Rattle.std.proofs.lemmas.Bool.{and_from}
use Rattle.url.specs.Parts.{Parts, serialize}
use Rattle.url.specs.Parser.{Parsed, parse_url}
use Rattle.attr_list.specs.Attributes.{Pair}
use Rattle.attr_list.specs.Numbers.{hex_of}
use Rattle.playlist_model.specs.declared.FaultKind.TheVariants as fault
use Rattle.playlist_model.specs.Uri.{has_scheme, can_be_written, text_of_join, resolved}
use Rattle.playlist_model.specs.Said.{value_if, iv_of, uri_of, byte_range_of, init_section_byte_range, byte_range_end_fits}
use Rattle.playlist_model.specs.Carried.{after_commas, carried}
use Rattle.writable.specs.Fitting.{if_some, value_fits, uri_fits, quoted_uri_fits, method_fits, iv_is_writable, byte_range_fits, key_is_writable}
use Rattle.writable.proofs.Hexadecimal.{hex_is_iv}
use Rattle.playlist_write.proofs.CleanTexts.{Clean, clean_printable}
use Rattle.read_is_writable.proofs.Gives.{Gives, found, after}
use Rattle.read_is_writable.proofs.Bounds.{where_some}
use Rattle.read_is_writable.proofs.CleanCuts.{clean_is}
use Rattle.read_is_writable.proofs.AttributeValues.{pair_fits, pairs_fit, carried_fit}

-- ---- hexadecimal sequences

pub iv_is_fit : (pair : Pair) → pair_fits pair ≡ true → Gives iv_is_writable (iv_of pair)
iv_is_fit pair h = after iv_is_writable (value_if false pair.quoted pair.value) _ (λ value. found iv_is_writable fault.BadAttributes (hex_of value) (λ n e. hex_is_iv value n e))

-- ---- ranges (4.3.2.2)

abbrev pub byte_range_is_fit : ℕ × Option ℕ → Bool
byte_range_is_fit r = if_some (byte_range_end_fits r.0) r.1

pub byte_range_of_fits : (rest : List ℕ) → Gives byte_range_is_fit (byte_range_of rest)
byte_range_of_fits rest = grind arith

pub init_section_byte_range_fits : (pair : Pair) → Gives byte_range_fits (init_section_byte_range pair)
init_section_byte_range_fits pair = grind arith

-- ---- URIs

joined_fits : (p : List ℕ → Bool) (url : Parsed Parts) (text : List ℕ) → ((t : List ℕ) → can_be_written t ≡ true → p t ≡ true) → text_of_join url ≡ Some text → p text ≡ true
joined_fits p (Ok url) text f h =
    let w = where_some (can_be_written (serialize url)) (serialize url) text h in ap p (sym w.1) ∙ f (serialize url) w.0
joined_fits p (Err e) text f h = cc

resolved_fits : (p : List ℕ → Bool) (base : Parts) (reference text : List ℕ) → (has_scheme reference ≡ true → p reference ≡ true) → ((t : List ℕ) → can_be_written t ≡ true → p t ≡ true)
    → resolved base reference ≡ Some text → p text ≡ true
resolved_fits p base reference text g f h = by (has_scheme reference) (parse_url (Some base) reference) g h
  where
    by : (b : Bool) (url : Parsed Parts) → (b ≡ true → p reference ≡ true) → cond b (Some reference) (text_of_join url) ≡ Some text → p text ≡ true
    by true url g h = let e : reference ≡ text = cc in ap p (sym e) ∙ g refl
    by false url g h = joined_fits p url text f h

join_fits : (text : List ℕ) → can_be_written text ≡ true → uri_fits text ≡ true
join_fits text h = grind arith

quoted_join_fits : (text : List ℕ) → can_be_written text ≡ true → quoted_uri_fits text ≡ true
quoted_join_fits text h = grind arith

pub plain_uri : (base : Parts) (reference : List ℕ) → Clean reference → Gives uri_fits (uri_of base reference)
plain_uri base reference c =
    found uri_fits fault.BadUri (resolved base reference) (λ text h.
    resolved_fits uri_fits base reference text (λ s. and_from _ _ (clean_is reference c) s) join_fits h)

pub quoted_uri : (base : Parts) (reference : List ℕ) → value_fits true reference ≡ true → Gives quoted_uri_fits (uri_of base reference)
quoted_uri base reference v =
    found quoted_uri_fits fault.BadUri (resolved base reference) (λ text h.
    resolved_fits quoted_uri_fits base reference text (λ s. and_from _ _ v s) quoted_join_fits h)

-- ---- keys (4.3.2.4)

pub or_identity : (format : Option (List ℕ)) → if_some (value_fits true) format ≡ true → value_fits true (unwrap_or format (codes "identity")) ≡ true
or_identity format h = grind (arith, and_from, clean_is, clean_printable)

pub key_from : (format method resource : List ℕ) (iv : Option ℕ) (pairs : List Pair) → value_fits true format ≡ true → method_fits method ≡ true → quoted_uri_fits resource ≡ true
    → if_some iv_is_writable iv ≡ true → pairs_fit pairs ≡ true
    → key_is_writable (record { format = format; method = method; uri = resource; iv = iv; other_attributes = after_commas (carried pairs) }) ≡ true
key_from format method resource iv pairs f m u i h = grind (arith, and_from, carried_fit)
