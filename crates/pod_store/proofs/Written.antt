-- What keeps the rules of pods can be written.
use Rattle.std.proofs.Common.{◌≡◌, ℕ, Bool, true, false, not, ◌||◌, List, [], ◌∷◌, ◌++◌, drop, length, codes, refl, ap, sym, ◌∙◌, subst, arith, Some, None}
use Rattle.std.specs.Prelude.{Option, ◌==◌, nat_le, is_none}
use Rattle.std.specs.List.{list_all, list_any}
use Rattle.std.specs.Str.{chars}
use Rattle.std.proofs.lemmas.Bool.{and_parts, and_from}
use Rattle.std.proofs.lemmas.Bool.Decides.{nat_tests}
use Rattle.std.proofs.lemmas.List.{take-append-drop}
use Rattle.std.proofs.lemmas.Slice.Eq.{bytes_eq-Decides}
use Rattle.std.proofs.lemmas.Str.{IsUtf8-from_ascii, is_utf8-from_IsUtf8}
use Rattle.attr_list.specs.Attributes.{is_attribute_name_byte}
use Rattle.attr_list.proofs.Elements.{all_from, none_from}
use Rattle.playlist_model.specs.declared.ByteRange.{ByteRange}
use Rattle.playlist_model.specs.declared.InitSection.{InitSection}
use Rattle.playlist_model.specs.declared.Key.{Key}
use Rattle.playlist_model.specs.Inner.Lines.{is_printable_playlist_byte}
use Rattle.pod_store.specs.Pods.{PodSegment, Ad, is_uri_byte, goes_on_from, is_web, is_uri, is_key_method}
use Rattle.playlist_model.specs.Reading.{key_needs_iv}
use Rattle.playlist_model.specs.Uri.{has_scheme}
use Rattle.playlist_model.proofs.Printable.{ascii, printable_has_no_control}
use Rattle.writable.specs.Fitting as fit
use Rattle.pod_store.specs.Rules.{byte_range_fits, segment_keeps, iv_keeps, key_keeps, init_section_keeps, ad_keeps}
use Rattle.pod_store.specs.Laws.{segment_can_be_written, ad_can_be_written, PodsCanBeWritten}

-- ---- texts

clean : (text : List ℕ) → list_all is_printable_playlist_byte text ≡ true → fit.is_clean text ≡ true
clean text h = and_from _ _ (is_utf8-from_IsUtf8 text (IsUtf8-from_ascii text (ascii text h))) (ap not (printable_has_no_control text h))

uri_byte_printable : (b : ℕ) → is_uri_byte b ≡ true → is_printable_playlist_byte b ≡ true
uri_byte_printable b h = grind (arith, nat_tests)

begins : (front text : List ℕ) → goes_on_from front text ≡ true → front ++ drop (length front) text ≡ text
begins front text h = grind (arith, bytes_eq-Decides, take-append-drop)

schemed : (rest : List ℕ) → has_scheme (codes "http://" ++ rest) ≡ true
unfolding chars
schemed rest = refl

secure : (rest : List ℕ) → has_scheme (codes "https://" ++ rest) ≡ true
unfolding chars
secure rest = refl

web_has_scheme : (text : List ℕ) → is_web text ≡ true → has_scheme text ≡ true
web_has_scheme text h = by (goes_on_from (codes "http://") text) refl (goes_on_from (codes "https://") text) refl
  where
    by : (a : Bool) → goes_on_from (codes "http://") text ≡ a → (b : Bool) → goes_on_from (codes "https://") text ≡ b → has_scheme text ≡ true
    by true e b f = subst (λ t. has_scheme t ≡ true) (begins (codes "http://") text e) (schemed (drop (length (codes "http://")) text))
    by false e true f = subst (λ t. has_scheme t ≡ true) (begins (codes "https://") text f) (secure (drop (length (codes "https://")) text))
    by false e false f = let k : false ≡ true = sym (ap (λ x. x || goes_on_from (codes "https://") text) e ∙ f) ∙ h in absurd (cc)

uri_is_clean : (uri : List ℕ) → is_uri uri ≡ true → fit.is_clean uri ≡ true
uri_is_clean uri h = clean uri (all_from is_uri_byte is_printable_playlist_byte uri (and_parts _ _ h).1 uri_byte_printable)

uri_is_fit : (uri : List ℕ) → is_uri uri ≡ true → fit.uri_fits uri ≡ true
uri_is_fit uri h = and_from _ _ (uri_is_clean uri h) (web_has_scheme uri (and_parts _ _ h).0)

quoted_uri_is_fit : (uri : List ℕ) → is_uri uri ≡ true → fit.quoted_uri_fits uri ≡ true
quoted_uri_is_fit uri h = grind (arith, and_parts, none_from, uri_is_clean, web_has_scheme)

name_byte_printable : (b : ℕ) → is_attribute_name_byte b ≡ true → is_printable_playlist_byte b ≡ true
name_byte_printable b h = grind (arith, nat_tests)

method_is_fit : (method : List ℕ) → is_key_method method ≡ true → fit.method_fits method ≡ true
method_is_fit method h = grind (arith, all_from, and_parts, clean, name_byte_printable, none_from)

byte_range_is_fit : (byte_range : Option ByteRange) → byte_range_fits byte_range ≡ true → fit.if_some fit.byte_range_fits byte_range ≡ true
byte_range_is_fit None h = refl
byte_range_is_fit (Some r) h = h

-- ---- keys

iv_is_fit : (iv : Option ℕ) → iv_keeps iv ≡ true → (fit.if_some fit.iv_is_writable iv ≡ true) × (is_none iv ≡ false)
iv_is_fit None h = absurd (cc)
iv_is_fit (Some n) h = (h, refl)

module _ {A : Type 0} where
  nothing_other : (xs : List A) → (length xs == 0) ≡ true → xs ≡ []
  nothing_other [] h = refl
  nothing_other (x ∷ xs) h = absurd (grind (arith, nat_tests))

record KeyFits (k : Key) : Type 0 where
  fits : fit.key_is_writable k ≡ true
  has_iv : is_none k.iv ≡ false

key_is_fit : (k : Key) → key_keeps k ≡ true → KeyFits k
key_is_fit k h = grind (arith, nat_tests, and_from, and_parts, clean, method_is_fit, quoted_uri_is_fit)

states : (k : Key) → is_none k.iv ≡ false → fit.writable_key_states_iv k ≡ true
states k h = grind arith

needs_none : (k : Key) → is_none k.iv ≡ false → key_needs_iv k ≡ false
needs_none k h = grind arith

record KeysFit (keys : List Key) : Type 0 where
  fits : fit.keys_are_writable keys ≡ true
  state_ivs : list_all fit.writable_key_states_iv keys ≡ true
  need_none : list_any key_needs_iv keys ≡ false

keys_are_fit : (keys : List Key) → nat_le (length keys) 1 ≡ true → list_all key_keeps keys ≡ true → KeysFit keys
keys_are_fit [] n h = record { fits = refl; state_ivs = refl; need_none = refl }
keys_are_fit (k ∷ []) n h = grind (arith, and_parts, key_is_fit, needs_none, states)
keys_are_fit (k ∷ j ∷ keys) n h = absurd (grind (arith, nat_tests))

-- ---- ads

init_section_is_fit : (init_section : Option InitSection) → init_section_keeps init_section ≡ true → fit.if_some fit.init_section_fits init_section ≡ true
init_section_is_fit init_section h = grind (arith, and_parts, keys_are_fit, quoted_uri_is_fit)

segment_is_fit : (s : PodSegment) → segment_keeps s ≡ true → segment_can_be_written s ≡ true
segment_is_fit s h = grind (arith, and_parts, uri_is_fit)

ad_is_fit : (ad : Ad) → ad_keeps ad ≡ true → ad_can_be_written ad ≡ true
ad_is_fit ad h = grind (arith, all_from, and_parts, init_section_is_fit, keys_are_fit, segment_is_fit)

pub pods_can_be_written : PodsCanBeWritten
pods_can_be_written ads h = all_from ad_keeps ad_can_be_written ads (and_parts _ _ h).1 ad_is_fit
