-- What is written to say something is read as saying that.
use Rattle.std.proofs.Common.{◌≡◌, ◌≢◌, ℕ, ◌+◌, ◌^◌, ◌<◌, Bool, true, false, not, cond, List, [], ◌∷◌, ◌++◌, refl, ap, sym, ◌∙◌, arith, Ok, Some, None}
use Rattle.std.specs.Prelude.{◌||◌, ◌==◌, nat_lt, codes, bytes_eq, Option, ℤ, find, unwrap_or, is_none, slice_index, nat_eq}
use Rattle.std.specs.List.{list_any, list_all, before_first, after_first, prefix_len}
use Rattle.std.specs.Char.{is_ascii_hexdigit, is_ascii_alphabetic}
use Rattle.std.specs.Str.{chars}
use Rattle.std.specs.Fmt.{decimal}
use Rattle.std.proofs.lemmas.Bool.{and_parts, or_from, not-true, cond-true, lt-ltb, ltb-true}
use Rattle.std.proofs.lemmas.Bool.Decides.{nat_tests}
use Rattle.std.proofs.lemmas.Str.{IsUtf8-from_is_utf8}
use Rattle.std.proofs.lemmas.Slice.Eq.{bytes_eq-Decides}
use Rattle.url.specs.Parts.{Parts}
use Rattle.fixed_duration.specs.Duration.{duration_of, duration_text}
use Rattle.fixed_duration.proofs.Again.{read_again}
use Rattle.attr_list.specs.Attributes.{Pair, pair_spelling, value_spelling, is_attribute_name_byte, is_name, is_value, is_named, attribute, attributes_of, attributes_text, are_apart}
use Rattle.attr_list.specs.Numbers.{decimal_of}
use Rattle.attr_list.proofs.Cuts.{before_at, after_at, any_at}
use Rattle.attr_list.proofs.Grammar.{written_is_read}
use Rattle.attr_list.proofs.NumberLemmas.{written_decimal}
use Rattle.attr_list.proofs.Elements.{all_from, none_from}
use Rattle.playlist_model.specs.declared.FaultKind.{FaultKind}
use Rattle.playlist_model.specs.declared.FaultKind.TheVariants as fault
use Rattle.playlist_model.specs.declared.Key.{Key}
use Rattle.playlist_model.specs.declared.ByteRange.{ByteRange}
use Rattle.playlist_model.specs.declared.DateRange.{DateRange}
use Rattle.playlist_model.specs.declared.PlaylistKind.{PlaylistKind}
use Rattle.playlist_model.specs.declared.PlaylistKind.TheVariants.{Event, Vod}
use Rattle.playlist_model.specs.Lines.{has_control, kind_of, uri}
use Rattle.playlist_model.specs.Inner.Lines.{is_printable_playlist_byte}
use Rattle.playlist_model.specs.Uri.{has_scheme, is_uri_scheme_byte}
use Rattle.date_times.specs.Instant.{in_range, instant_of}
use Rattle.spec_words.specs.Outcomes.{◌>>=◌, refuse_if, or_fault, some_value, optional}
use Rattle.playlist_model.specs.Said.{Said, version, target, sequence, discontinuity_sequence, playlist_type, ended, independent, duration, byte_range, discontinuity, no_keys, key, init_section, time, date_range, media, Outcome, duration_said, byte_range_of, byte_range_end_fits, uri_of, iv_of, required, quoted_of, set_key, key_said, init_section_said, init_section_byte_range, number_said, version_of, date_range_said}
use Rattle.playlist_model.specs.Carried.{after_commas, carried}
use Rattle.playlist_model.specs.Reading.{said_by, unlimited, passes, said_by_kind, within_formats, key_needs_iv, with_ivs, is_set, has}
use Rattle.playlist_model.specs.LookBack.{discontinuity_at, own_duration, media_sequence_at, byte_range_at, keys_at, the_version, the_target, the_sequence, the_discontinuity_sequence, the_type, is_media, is_discontinuity, is_ended}
use Rattle.playlist_model.proofs.SameParts.{key_ext}
use Rattle.date_times.specs.Digits.{fixed_digits}
use Rattle.date_times.specs.Times.{time_text}
use Rattle.playlist_write.specs.Spelling.{spelled, own_pairs, key_text, init_section_pairs, iv_pairs, format_pairs, in_quotes, part_pairs}
use Rattle.writable.specs.Fitting.{is_clean, value_fits, uri_fits, quoted_uri_fits, if_some, iv_is_writable, key_is_writable, byte_range_fits}
use Rattle.playlist_write.proofs.CleanTexts.{Clean, clean-append, clean_printable}
use Rattle.playlist_write.proofs.WrittenNumbers.{is_number_byte, decimal_bytes, duration_bytes, hex_bytes, hex_read}
use Rattle.playlist_write.proofs.OtherFields.{carried_others, none_found}
use Rattle.playlist_write.proofs.TagFields.{KeyParts, key_parts, key_pairs, key_attributes, key_text_is, own_attributes, init_section_attributes}
use Rattle.date_times.proofs.TimeLaws.{time_reads}
use Rattle.playlist_write.proofs.WrittenTimes.{times_are_clean}

pub clean_is : (bs : List ℕ) → is_clean bs ≡ true → Clean bs
clean_is bs h = grind (arith, and_parts, IsUtf8-from_is_utf8, not-true)

clean_value : (quoted : Bool) (value : List ℕ) → value_fits quoted value ≡ true → Clean value
clean_value quoted value h = clean_is value (and_parts _ _ h).0

clean_uri : (text : List ℕ) → quoted_uri_fits text ≡ true → Clean text
clean_uri text h = clean_value true text (and_parts _ _ h).0

scheme_is : (text : List ℕ) → quoted_uri_fits text ≡ true → has_scheme text ≡ true
scheme_is text h = grind arith

some_pairs : (pair : Pair) (pairs : List Pair) → pair ∷ pairs ≢ []
some_pairs pair pairs h = cc

unrefused : (t : Bool) (e : FaultKind) (o : Outcome Said) (s : Said) → t ≡ false → o ≡ Ok s → refuse_if t e o ≡ Ok s
unrefused true e o s h g = cc
unrefused false e o s h g = g

number_printable : (b : ℕ) → is_number_byte b ≡ true → is_printable_playlist_byte b ≡ true
number_printable b h = grind (arith, nat_tests)

clean_number : (bs : List ℕ) → list_all is_number_byte bs ≡ true → Clean bs
clean_number bs h = clean_printable bs (all_from is_number_byte is_printable_playlist_byte bs h number_printable)

name_printable : (b : ℕ) → is_attribute_name_byte b ≡ true → is_printable_playlist_byte b ≡ true
name_printable b h = grind (arith, nat_tests)

clean_name : (name : List ℕ) → is_name name ≡ true → Clean name
clean_name name h = clean_printable name (all_from is_attribute_name_byte is_printable_playlist_byte name (and_parts _ _ h).1 name_printable)

as_written : (line : List ℕ) (o : Outcome Said) (s : Said) → Clean line → o ≡ Ok s → Clean line × (refuse_if (has_control line) fault.Control o ≡ Ok s)
as_written line o s c h = (c, unrefused (has_control line) fault.Control o s c.free h)

module _ (base : Parts) (before : List Said) where
  -- what is written to say this says it after the lines before
  abbrev IsRead : Said → Type 0
  IsRead s = Clean (spelled s) × (said_by unlimited base before (spelled s) ≡ Ok s)

  -- ---- EXTINF

  number_no_comma : (b : ℕ) → is_number_byte b ≡ true → (b == 44) ≡ false
  number_no_comma b h = grind (arith, nat_tests)

  duration_parts : (rest front title : List ℕ) (n : ℕ) → before_first (λ b. b == 44) rest ≡ front → after_first (λ b. b == 44) rest ≡ title → duration_of front ≡ Ok n → duration_said rest ≡ Ok (duration n title)
  duration_parts rest front title n e g h = rw (e, g, h) refl

  pub duration_line : (n : ℕ) (title : List ℕ) → n < 10 ^ 15 → Clean title → IsRead (duration n title)
  duration_line n title h c =
      let bytes = duration_bytes n h in
      let free = none_from is_number_byte (λ b. b == 44) (duration_text n) bytes number_no_comma in
      let line = clean-append (codes "#EXTINF:") _ (clean_printable _ refl) (clean-append (duration_text n) (44 ∷ title) (clean_number _ bytes) (clean-append (44 ∷ []) title (clean_printable _ refl) c)) in
      as_written (codes "#EXTINF:" ++ (duration_text n ++ 44 ∷ title)) (duration_said (duration_text n ++ 44 ∷ title)) _ line
      (duration_parts (duration_text n ++ 44 ∷ title) (duration_text n) title n (before_at (λ b. b == 44) (duration_text n) 44 title free refl) (after_at (λ b. b == 44) (duration_text n) 44 title free refl) (read_again n h))

  -- ---- EXT-X-BYTERANGE

  number_no_at : (b : ℕ) → is_number_byte b ≡ true → (b == 64) ≡ false
  number_no_at b h = grind (arith, nat_tests)

  pub byte_range_reads : (n o : ℕ) → n + o < 2 ^ 64 → byte_range_of (decimal n ++ 64 ∷ decimal o) ≡ Ok (n, Some o)
  byte_range_reads n o h =
      let free = none_from is_number_byte (λ b. b == 64) (decimal n) (decimal_bytes n (omega arith)) number_no_at in
      by (decimal n ++ 64 ∷ decimal o) n o (ap decimal_of (before_at (λ b. b == 64) (decimal n) 64 (decimal o) free refl) ∙ written_decimal n (omega arith))
      (ap decimal_of (after_at (λ b. b == 64) (decimal n) 64 (decimal o) free refl) ∙ written_decimal o (omega arith)) (any_at (λ b. b == 64) (decimal n) 64 (decimal o) refl) (lt-ltb _ _ h)
    where
      by : (rest : List ℕ) (n o : ℕ) → decimal_of (before_first (λ b. b == 64) rest) ≡ Some n → decimal_of (after_first (λ b. b == 64) rest) ≡ Some o → list_any (λ b. b == 64) rest ≡ true
          → byte_range_end_fits n o ≡ true → byte_range_of rest ≡ Ok (n, Some o)
      by rest n o e g a f = rw (e, a, g, f) refl

  pub clean_byte_range : (n o : ℕ) → n + o < 2 ^ 64 → Clean (decimal n ++ 64 ∷ decimal o)
  clean_byte_range n o h = clean-append (decimal n) (64 ∷ decimal o) (clean_number _ (decimal_bytes n (omega arith))) (clean-append (64 ∷ []) (decimal o) (clean_printable _ refl) (clean_number _ (decimal_bytes o (omega arith))))

  pub ended_date_range_line : (n o : ℕ) → n + o < 2 ^ 64 → IsRead (byte_range n (Some o))
  ended_date_range_line n o h =
      let line = clean-append (codes "#EXT-X-BYTERANGE:") _ (clean_printable _ refl) (clean_byte_range n o h) in
      as_written (codes "#EXT-X-BYTERANGE:" ++ (decimal n ++ 64 ∷ decimal o)) (byte_range_of (decimal n ++ 64 ∷ decimal o) >>= λ r. Ok (byte_range r.0 r.1)) _ line
      (ap (λ x. x >>= λ r. Ok (byte_range r.0 r.1)) (byte_range_reads n o h))

  -- ---- EXT-X-DISCONTINUITY, METHOD=NONE

  pub discontinuity_line : passes (discontinuity_at before + 1) ≡ false → IsRead discontinuity
  unfolding chars
  discontinuity_line h = (clean_printable _ refl, unrefused _ _ _ _ h refl)

  pub no_keys_line : IsRead no_keys
  unfolding chars
  no_keys_line = (clean_printable _ refl, refl)

  -- ---- URIs

  resolves : (text : List ℕ) → has_scheme text ≡ true → uri_of base text ≡ Ok text
  resolves text h = ap (or_fault fault.BadUri) (cond-true (has_scheme text) _ _ h)

  letter_is : (b : ℕ) → is_ascii_alphabetic b ≡ true → ((b == 32) ≡ false) × (nat_eq 35 b ≡ false)
  letter_is b h = (grind (arith, nat_tests), grind (arith, nat_tests))

  uri_kind : (text : List ℕ) → has_scheme text ≡ true → kind_of text ≡ uri text
  uri_kind [] h = cc
  uri_kind (b ∷ rest) h =
      let a : (is_ascii_alphabetic b ≡ true) × (slice_index (b ∷ rest) (prefix_len is_uri_scheme_byte (b ∷ rest)) == 58 ≡ true) = and_parts _ _ h in
      let l = letter_is b a.0 in rw (l.0, l.1) refl

  pub media_line : (text : List ℕ) (r : Option ByteRange) → uri_fits text ≡ true → is_none (own_duration before) ≡ false → passes (media_sequence_at before) ≡ false → byte_range_at before text ≡ Ok r → IsRead (media text)
  media_line text r h d n e =
      let a : (is_clean text ≡ true) × (has_scheme text ≡ true) = and_parts _ _ h in
      as_written text (said_by_kind unlimited base before (kind_of text)) _ (clean_is text a.0)
      (ap (said_by_kind unlimited base before) (uri_kind text a.1) ∙ unrefused _ _ _ _ d (unrefused _ _ _ _ n (by text r (resolves text a.1) e)))
    where
      by : (text : List ℕ) (r : Option ByteRange) → uri_of base text ≡ Ok text → byte_range_at before text ≡ Ok r → (uri_of base text >>= λ u. byte_range_at before u >>= λ x. Ok (media u)) ≡ Ok (media text)
      by text r e g = ap (λ x. x >>= λ u. byte_range_at before u >>= λ y. Ok (media u)) e ∙ ap (λ x. x >>= λ y. Ok (media text)) g

  -- ---- attributes

  clean_spelling : (q : Bool) (name value : List ℕ) → is_name name ≡ true → Clean value → Clean (name ++ (61 ∷ value_spelling q value))
  clean_spelling true name value n v =
      clean-append name _ (clean_name name n) (clean-append (61 ∷ 34 ∷ []) (value ++ 34 ∷ []) (clean_printable _ refl) (clean-append value (34 ∷ []) v (clean_printable _ refl)))
  clean_spelling false name value n v = clean-append name _ (clean_name name n) (clean-append (61 ∷ []) value (clean_printable _ refl) v)

  AllValuesClean : List Pair → Type 0
  AllValuesClean [] = Unit {0}
  AllValuesClean (pair ∷ pairs) = Clean pair.value × AllValuesClean pairs

  values_clean-append : (xs ys : List Pair) → AllValuesClean xs → AllValuesClean ys → AllValuesClean (xs ++ ys)
  unfolding AllValuesClean
  values_clean-append [] ys h g = g
  values_clean-append (x ∷ xs) ys h g = (h.0, values_clean-append xs ys h.1 g)

  clean_attributes : (pairs before : List Pair) → are_apart before pairs ≡ true → AllValuesClean pairs → Clean (attributes_text pairs)
  unfolding AllValuesClean
  clean_attributes [] b h v = clean_printable [] refl
  clean_attributes (pair ∷ []) b h v =
      let a = and_parts _ _ h in let c = and_parts _ _ a.0 in let n : (is_name pair.name ≡ true) × (is_value pair.quoted pair.value ≡ true) = and_parts _ _ c.0 in
      clean_spelling pair.quoted pair.name pair.value n.0 v.0
  clean_attributes (pair ∷ next ∷ pairs) b h v =
      let a = and_parts _ _ h in let c = and_parts _ _ a.0 in let n : (is_name pair.name ≡ true) × (is_value pair.quoted pair.value ≡ true) = and_parts _ _ c.0 in
      clean-append (pair_spelling pair) (44 ∷ attributes_text (next ∷ pairs)) (clean_spelling pair.quoted pair.name pair.value n.0 v.0)
      (clean-append (44 ∷ []) (attributes_text (next ∷ pairs)) (clean_printable _ refl) (clean_attributes (next ∷ pairs) (b ++ pair ∷ []) a.1 v.1))

  -- ---- EXT-X-KEY

  iv_part : (iv : Option ℕ) (later : List Pair) → if_some iv_is_writable iv ≡ true → find (is_named (codes "IV")) later ≡ None → optional iv_of (find (is_named (codes "IV")) (iv_pairs iv ++ later)) ≡ Ok iv
  iv_part None later h e = ap (optional iv_of) e
  iv_part (Some n) later h e = ap (λ o. some_value (or_fault fault.BadAttributes o)) (hex_read n (ltb-true _ _ h))

  past_iv : (iv : Option ℕ) (later : List Pair) → find (is_named (codes "KEYFORMAT")) (iv_pairs iv ++ later) ≡ find (is_named (codes "KEYFORMAT")) later
  past_iv None later = refl
  past_iv (Some n) later = refl

  -- the format that is read if this one is written
  format_read : Bool → List ℕ → Option (List ℕ)
  format_read true format = None
  format_read false format = Some format

  format_step : (b : Bool) (format : List ℕ) (later : List Pair) → find (is_named (codes "KEYFORMAT")) later ≡ None
      → optional quoted_of (find (is_named (codes "KEYFORMAT")) (cond b [] (in_quotes (codes "KEYFORMAT") format ∷ []) ++ later)) ≡ Ok (format_read b format)
  unfolding format_read
  format_step true format later e = ap (optional quoted_of) e
  format_step false format later e = refl

  format_back : (b : Bool) (format : List ℕ) → bytes_eq format (codes "identity") ≡ b → unwrap_or (format_read b format) (codes "identity") ≡ format
  unfolding format_read
  format_back true format e = sym ((bytes_eq-Decides format (codes "identity")).0 e)
  format_back false format e = refl

  carried_format : (b : Bool) (format : List ℕ) (later : List Pair) → carried (cond b [] (in_quotes (codes "KEYFORMAT") format ∷ []) ++ later) ≡ carried later
  carried_format true format later = refl
  carried_format false format later = refl

  carried_iv : (iv : Option ℕ) (later : List Pair) → carried (iv_pairs iv ++ later) ≡ carried later
  carried_iv None later = refl
  carried_iv (Some n) later = refl

  set_key_by : (pairs : List Pair) (reference method resource : List ℕ) (iv : Option ℕ) (format : Option (List ℕ)) (others : List ℕ) → required true (attribute pairs (codes "URI")) ≡ Ok reference
      → optional iv_of (attribute pairs (codes "IV")) ≡ Ok iv → optional quoted_of (attribute pairs (codes "KEYFORMAT")) ≡ Ok format → uri_of base reference ≡ Ok resource → after_commas (carried pairs) ≡ others
      → set_key base pairs method ≡ Ok (key (record { format = unwrap_or format (codes "identity"); method = method; uri = resource; iv = iv; other_attributes = others }))
  set_key_by pairs reference method resource iv format others a b c d e = rw (a, b, c, d, e) refl

  hex_printable : (b : ℕ) → is_ascii_hexdigit b ≡ true → is_printable_playlist_byte b ≡ true
  hex_printable b h = grind (arith, nat_tests)

  clean_iv : (iv : Option ℕ) → if_some iv_is_writable iv ≡ true → AllValuesClean (iv_pairs iv)
  unfolding AllValuesClean
  clean_iv None h = tt
  clean_iv (Some n) h = (clean-append (48 ∷ 120 ∷ []) (fixed_digits 16 32 n) (clean_printable _ refl) (clean_printable _ (all_from is_ascii_hexdigit is_printable_playlist_byte (fixed_digits 16 32 n) (hex_bytes n (ltb-true _ _ h)) hex_printable)), tt)

  clean_format : (b : Bool) (format : List ℕ) → Clean format → AllValuesClean (cond b [] (in_quotes (codes "KEYFORMAT") format ∷ []))
  unfolding AllValuesClean
  clean_format true format c = tt
  clean_format false format c = (c, tt)

  own_values_clean : (k : Key) → KeyParts k → AllValuesClean (own_pairs k)
  unfolding AllValuesClean
  own_values_clean k h = (
    clean_value false k.method h.method,
    (clean_uri k.uri h.uri, values_clean-append (iv_pairs k.iv) _ (clean_iv k.iv h.iv) (clean_format _ k.format (clean_value true k.format h.format))),
  )

  key_by : (rest : List ℕ) (pairs : List Pair) (method : List ℕ) (s : Said) → attributes_of None rest ≡ Ok pairs → required false (attribute pairs (codes "METHOD")) ≡ Ok method
      → bytes_eq method (codes "NONE") ≡ false → set_key base pairs method ≡ Ok s → (key_said unlimited base rest >>= within_formats unlimited before) ≡ Ok s
  key_by rest pairs method s a b c d = rw (a, b, c, d) refl

  set_key_is : (k : Key) (h : KeyParts k) → set_key base (key_pairs k h.others.pairs) k.method ≡ Ok (key k)
  set_key_is k h =
      let later = h.others.pairs in
      let no_format_later = none_found (codes "KEYFORMAT") later h.others.none_own (λ pair o. o.format) in
      let no_iv_later = none_found (codes "IV") later h.others.none_own (λ pair o. o.iv) in
      let b = bytes_eq k.format (codes "identity") in
      let iv = iv_part k.iv (format_pairs k.format ++ later) h.iv (past_format b k.format later ∙ no_iv_later) in
      let format = ap (optional quoted_of) (past_iv k.iv (format_pairs k.format ++ later)) ∙ format_step b k.format later no_format_later in
      let rest = carried_iv k.iv (format_pairs k.format ++ later) ∙ carried_format b k.format later ∙ carried_others later h.others.none_own in
      set_key_by (key_pairs k later) k.uri k.method k.uri k.iv (format_read b k.format) k.other_attributes refl iv format (resolves k.uri (scheme_is k.uri h.uri)) (ap after_commas rest ∙ sym h.others.spelled)
      ∙ ap (λ x. Ok (key x)) (key_ext _ _ _ _ _ _ _ _ _ _ (format_back b k.format refl) refl refl refl refl)
    where
      past_format : (b : Bool) (format : List ℕ) (later : List Pair) → find (is_named (codes "IV")) (cond b [] (in_quotes (codes "KEYFORMAT") format ∷ []) ++ later) ≡ find (is_named (codes "IV")) later
      past_format true format later = refl
      past_format false format later = refl

  pub key_line : (k : Key) → key_is_writable k ≡ true → IsRead (key k)
  key_line k h =
      let p = key_parts k h in let all = key_attributes k p in
      let pairs = key_pairs k p.others.pairs in
      let text = clean-append (attributes_text (own_pairs k)) k.other_attributes (clean_attributes (own_pairs k) [] (own_attributes k p) (own_values_clean k p)) (clean_is k.other_attributes p.clean) in
      as_written (codes "#EXT-X-KEY:" ++ key_text k) (key_said unlimited base (key_text k) >>= within_formats unlimited before) _ (clean-append (codes "#EXT-X-KEY:") _ (clean_printable _ refl) text)
      (key_by (key_text k) pairs k.method (key k) (ap (attributes_of None) (key_text_is k p) ∙ written_is_read pairs (some_pairs _ _) all) refl p.not_none (set_key_is k p))

  -- ---- EXT-X-MAP

  part_reads : (part : Option ByteRange) → if_some byte_range_fits part ≡ true → optional init_section_byte_range (find (is_named (codes "BYTERANGE")) (part_pairs part)) ≡ Ok part
  part_reads None h = refl
  part_reads (Some r) h =
      let e = byte_range_reads r.length r.offset (ltb-true _ _ h) in
      ap (λ x. some_value (x >>= part_then)) e ∙ ap (λ t. some_value (refuse_if (not t) fault.BadRange (Ok (record { length = r.length; offset = r.offset })))) h
    where
      part_then : ℕ × Option ℕ → Outcome ByteRange
      part_then r = refuse_if (not (byte_range_end_fits r.0 (unwrap_or r.1 0))) fault.BadRange (Ok (record { length = r.0; offset = unwrap_or r.1 0 }))

  init_section_by : (rest : List ℕ) (pairs : List Pair) (reference resource : List ℕ) (part : Option ByteRange) → attributes_of None rest ≡ Ok pairs → required true (attribute pairs (codes "URI")) ≡ Ok reference
      → optional init_section_byte_range (attribute pairs (codes "BYTERANGE")) ≡ Ok part → uri_of base reference ≡ Ok resource → list_any key_needs_iv (keys_at before) ≡ false
      → (init_section_said unlimited base rest >>= with_ivs before) ≡ Ok (init_section resource part)
  init_section_by rest pairs reference resource part a b c d e = rw (a, b, c, d, e) refl

  clean_part : (part : Option ByteRange) → if_some byte_range_fits part ≡ true → AllValuesClean (part_pairs part)
  unfolding AllValuesClean
  clean_part None h = tt
  clean_part (Some r) h = (clean_byte_range r.length r.offset (ltb-true _ _ h), tt)

  init_section_values : (text : List ℕ) (part : Option ByteRange) → Clean text → if_some byte_range_fits part ≡ true → AllValuesClean (init_section_pairs text part)
  unfolding AllValuesClean
  init_section_values text part c h = (c, clean_part part h)

  pub init_section_line : (text : List ℕ) (part : Option ByteRange) → quoted_uri_fits text ≡ true → if_some byte_range_fits part ≡ true → list_any key_needs_iv (keys_at before) ≡ false → IsRead (init_section text part)
  init_section_line text part h g n =
      let all = init_section_attributes text part h g in
      let line = clean-append (codes "#EXT-X-MAP:") _ (clean_printable _ refl) (clean_attributes (init_section_pairs text part) [] all (init_section_values text part (clean_uri text h) g)) in
      as_written (codes "#EXT-X-MAP:" ++ attributes_text (init_section_pairs text part)) (init_section_said unlimited base (attributes_text (init_section_pairs text part)) >>= with_ivs before) _ line
      (init_section_by (attributes_text (init_section_pairs text part)) (init_section_pairs text part) text text part (written_is_read (init_section_pairs text part) (some_pairs _ _) all) refl (part_reads part g) (resolves text (scheme_is text h)) n)

  -- ---- the header, times and date ranges

  clean_line : (front bytes : List ℕ) → list_all is_printable_playlist_byte front ≡ true → Clean bytes → Clean (front ++ bytes)
  clean_line front bytes h c = clean-append front bytes (clean_printable front h) c

  clean_decimal : (n : ℕ) → n < 2 ^ 64 → Clean (decimal n)
  clean_decimal n h = clean_number _ (decimal_bytes n h)

  number_reads : (n : ℕ) (f : ℕ → Said) → n < 2 ^ 64 → (number_said (decimal n) >>= λ m. Ok (f m)) ≡ Ok (f n)
  number_reads n f h = ap (λ o. or_fault fault.BadValue o >>= λ m. Ok (f m)) (written_decimal n h)

  version_reads : (n : ℕ) → (n == 6 || n == 7) ≡ true → (version_of (decimal n) >>= λ m. Ok (version m)) ≡ Ok (version n)
  version_reads n h =
      let small : n < 8 = version_small n h in
      ap (λ o. (or_fault fault.BadVersion o >>= λ v. refuse_if (v == 0 || nat_lt 7 v) fault.Version (Ok v)) >>= λ m. Ok (version m)) (written_decimal n (omega arith))
      ∙ ap (λ t. refuse_if t fault.Version (Ok n) >>= λ m. Ok (version m)) (version_known n h)
    where
      version_small : (n : ℕ) → (n == 6 || n == 7) ≡ true → n < 8
      version_small n h = grind (arith, nat_tests)

      version_known : (n : ℕ) → (n == 6 || n == 7) ≡ true → (n == 0 || nat_lt 7 n) ≡ false
      version_known n h = grind (arith, nat_tests)

  version_decimal : (n : ℕ) → (n == 6 || n == 7) ≡ true → n < 2 ^ 64
  version_decimal n h = let s : n < 8 = grind (arith, nat_tests) in omega arith

  pub version_line : (n : ℕ) → (n == 6 || n == 7) ≡ true → is_set the_version before ≡ false → IsRead (version n)
  version_line n h c =
      as_written _ (refuse_if (is_set the_version before) _ (version_of (decimal n) >>= λ m. Ok (version m))) _ (clean_line (codes "#EXT-X-VERSION:") (decimal n) refl (clean_decimal n (version_decimal n h)))
      (unrefused _ _ _ _ c (version_reads n h))

  pub target_line : (n : ℕ) → n < 2 ^ 64 → is_set the_target before ≡ false → IsRead (target n)
  target_line n h c =
      as_written _ (refuse_if (is_set the_target before) _ (number_said (decimal n) >>= λ m. Ok (target m))) _ (clean_line (codes "#EXT-X-TARGETDURATION:") (decimal n) refl (clean_decimal n h))
      (unrefused _ _ _ _ c (number_reads n target h))

  pub sequence_line : (n : ℕ) → n < 2 ^ 64 → is_set the_sequence before ≡ false → has is_media before ≡ false → IsRead (sequence n)
  sequence_line n h c d =
      as_written _ (refuse_if (is_set the_sequence before) _ (refuse_if (has is_media before) _ (number_said (decimal n) >>= λ m. Ok (sequence m)))) _ (clean_line (codes "#EXT-X-MEDIA-SEQUENCE:") (decimal n) refl (clean_decimal n h))
      (unrefused _ _ _ _ c (unrefused _ _ _ _ d (number_reads n sequence h)))

  pub discontinuity_sequence_line : (n : ℕ) → n < 2 ^ 64 → is_set the_discontinuity_sequence before ≡ false → has is_media before ≡ false → has is_discontinuity before ≡ false → IsRead (discontinuity_sequence n)
  discontinuity_sequence_line n h c d e =
      as_written _ (refuse_if (is_set the_discontinuity_sequence before) _ (refuse_if (has is_media before || has is_discontinuity before) _ (number_said (decimal n) >>= λ m. Ok (discontinuity_sequence m)))) _
      (clean_line (codes "#EXT-X-DISCONTINUITY-SEQUENCE:") (decimal n) refl (clean_decimal n h))
      (unrefused _ _ _ _ c (unrefused _ _ _ _ (or_from _ _ d e) (number_reads n discontinuity_sequence h)))

  pub type_line : (kind : PlaylistKind) → is_set the_type before ≡ false → IsRead (playlist_type kind)
  unfolding chars
  type_line Event c = (clean_printable _ refl, unrefused _ _ _ _ c refl)
  type_line Vod c = (clean_printable _ refl, unrefused _ _ _ _ c refl)

  pub ended_line : has is_ended before ≡ false → IsRead ended
  unfolding chars
  ended_line c = (clean_printable _ refl, unrefused _ _ _ _ c refl)

  pub independent_line : IsRead independent
  unfolding chars
  independent_line = (clean_printable _ refl, refl)

  pub time_line : (t : ℤ) → in_range t ≡ true → IsRead (time t)
  time_line t h =
      as_written _ (or_fault fault.BadTime (instant_of (time_text t)) >>= λ x. Ok (time x)) _ (clean_line (codes "#EXT-X-PROGRAM-DATE-TIME:") (time_text t) refl (times_are_clean t))
      (ap (λ o. or_fault fault.BadTime o >>= λ x. Ok (time x)) (time_reads t h))

  pub date_range_line : (r : DateRange) → is_clean r.attributes ≡ true → date_range_said unlimited r.attributes ≡ Ok (date_range r) → IsRead (date_range r)
  date_range_line r h e =
      as_written _ (date_range_said unlimited r.attributes) _ (clean_line (codes "#EXT-X-DATERANGE:") r.attributes refl (clean_is r.attributes h)) e
