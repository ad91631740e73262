-- What a line says, and where it may stand.
use Rattle.std.proofs.Common.{◌≡◌, ℕ, ◌<◌, ◌+◌, ◌^◌, Bool, true, false, not, List, [], ◌∷◌, length, refl, ap, sym, ◌∙◌, arith}
use Rattle.std.specs.Prelude.{Result, Ok, Err, codes, bytes_eq, ◌||◌, ◌&&◌, ◌==◌, is_none, unwrap_or}
use Rattle.std.specs.List.{list_any, before_first, after_first, AllByRecursion, list_all}
use Rattle.std.proofs.lemmas.Bool.{and_parts, and_from, or_parts, not_from_false, lt-ltb, leb-false, eqb-true}
use Rattle.std.specs.Str.{IsUtf8}
use Rattle.url.specs.Parts.{Parts}
use Rattle.fixed_duration.specs.Duration.{duration_of}
use Rattle.attr_list.specs.Attributes.{attribute, Pair}
use Rattle.attr_list.specs.Numbers.{decimal_of}
use Rattle.date_times.specs.Instant.{instant_of, in_range}
use Rattle.playlist_model.specs.declared.FaultKind.TheVariants as fault
use Rattle.playlist_model.specs.Lines.{Kind, ignored, uri, tag, kind_of, has_control}
use Rattle.spec_words.specs.Outcomes.{or_fault, mended, optional}
use Rattle.playlist_model.specs.Said.{Name, sequence_tag, version_tag, target_tag, discontinuity_sequence_tag, type_tag, ended_tag, independent_tag, frames_tag, master_tag, duration_tag, byte_range_tag, discontinuity_tag, key_tag, init_section_tag, time_tag, date_range_tag, unknown_tag, Said, nothing, version, target, sequence, discontinuity_sequence, playlist_type, ended, independent, duration, byte_range, discontinuity, no_keys, init_section, time, media, Outcome, number_said, version_of, playlist_type_of, byte_range_of, duration_said, key_said, init_section_said, date_range_said, attributes, required, iv_of, quoted_of, uri_of, init_section_byte_range, time_of, attribute_duration_of, set_key, byte_range_end_fits, key, date_range}
use Rattle.playlist_model.specs.LookBack.{the_version, the_target, the_sequence, the_discontinuity_sequence, the_type, is_media, is_discontinuity, is_ended, own_duration, byte_range_at, keys_at, discontinuity_at, media_sequence_at}
use Rattle.playlist_model.specs.Reading.{name_of, has, is_set, passes, key_needs_iv, said_by_tag, said_by_kind, said_by, said_from, at_line, Fault, unlimited}
use Rattle.playlist_write.specs.WellFormed.{is_well_formed_number, duration_fits}
use Rattle.writable.specs.Fitting.{if_some, is_clean, value_fits, uri_fits, quoted_uri_fits, method_fits, iv_is_writable, byte_range_fits, key_is_writable}
use Rattle.playlist_write.proofs.CleanTexts.{Clean}
use Rattle.read_is_writable.specs.Read.{version_reads}
use Rattle.read_is_writable.proofs.CleanCuts.{clean_is, clean_after, clean_after_first}
use Rattle.read_is_writable.proofs.AttributeValues.{pairs_fit, attributes_fit, attribute_fits, required_fits, optional_fits, quoted_fits}
use Rattle.read_is_writable.proofs.Values.{iv_is_fit, byte_range_is_fit, byte_range_of_fits, init_section_byte_range_fits, plain_uri, quoted_uri, or_identity, key_from}
use Rattle.read_is_writable.proofs.Gives.{Gives, answers, fails, guarded, refused, chosen, found, told, bound, after}
use Rattle.date_times.proofs.TimeRange.{said_in_range}
use Rattle.read_is_writable.proofs.Bounds.{decimal_is_word, duration_is_small}

-- what is said fits by itself
abbrev pub is_fit : Said → Bool
is_fit (version n) = version_reads n
is_fit (target n) = is_well_formed_number n
is_fit (sequence n) = is_well_formed_number n
is_fit (discontinuity_sequence n) = is_well_formed_number n
is_fit (duration nanos title) = duration_fits nanos && is_clean title
is_fit (byte_range size offset) = if_some (byte_range_end_fits size) offset
is_fit (key k) = key_is_writable k
is_fit (init_section resource part) = quoted_uri_fits resource && if_some byte_range_fits part
is_fit (time t) = in_range t
is_fit (date_range r) = is_clean r.attributes
is_fit (media resource) = uri_fits resource
is_fit _ = true

-- what is said may stand after these lines
abbrev pub is_placed : List Said → Said → Bool
is_placed before (sequence n) = not (has is_media before)
is_placed before (discontinuity_sequence n) = not (has is_media before) && not (has is_discontinuity before)
is_placed before discontinuity = is_well_formed_number (discontinuity_at before + 1)
is_placed before (init_section resource part) = not (list_any key_needs_iv (keys_at before))
is_placed before (media resource) = is_well_formed_number (media_sequence_at before)
is_placed before _ = true

abbrev pub is_good : List Said → Said → Bool
is_good before said = is_fit said && is_placed before said

pub good_parts : (before : List Said) (said : Said) → is_good before said ≡ true → (is_fit said ≡ true) × (is_placed before said ≡ true)
good_parts before said h = and_parts (is_fit said) (is_placed before said) h

good : (before : List Said) (said : Said) → is_fit said ≡ true → is_placed before said ≡ true → Gives (is_good before) (Ok said)
good before said h g = answers (is_good before) said (and_from _ _ h g)

number_fits : (rest : List ℕ) → Gives is_well_formed_number (number_said rest)
number_fits rest = found is_well_formed_number fault.BadValue (decimal_of rest) (λ n e. decimal_is_word rest n e)

version_of_fits : (rest : List ℕ) → Gives version_reads (version_of rest)
version_of_fits rest = grind arith

word_below : (n : ℕ) → passes n ≡ false → is_well_formed_number n ≡ true
word_below n h = lt-ltb _ _ (omega (arith, leb-false (2 ^ 64) n h))

is_low : (n : ℕ) → n < 128 → (b : ℕ) → (b == n) ≡ true → b < 128
is_low n l b h = let e : b ≡ n = eqb-true _ _ h in omega (arith, l, e)

-- what is said is an initialisation section
is_init_section : Said → Bool
is_init_section (init_section resource part) = true
is_init_section _ = false

-- a section that fits by itself
is_fit_init_section : Said → Bool
is_fit_init_section said = is_init_section said && is_fit said

-- a line's reference, or what stands after its tag, has no control character
abbrev pub KindClean : Kind → Type 0
KindClean ignored = Unit {0}
KindClean (uri reference) = Clean reference
KindClean (tag name rest colon) = Clean rest

pub kind_clean : (line : List ℕ) → Clean line → KindClean (kind_of line)
kind_clean line c = grind (arith, clean_after_first, is_low, Clean)

module _ (before : List Said) where
  set_key_good : (base : Parts) (pairs : List Pair) (method : List ℕ) → pairs_fit pairs ≡ true → method_fits method ≡ true → Gives (is_good before) (set_key base pairs method)
  set_key_good base pairs method h m =
      bound (value_fits true) _ (required true (attribute pairs (codes "URI"))) _ (required_fits true _ (attribute_fits pairs (codes "URI") h)) (λ reference r.
      bound (if_some iv_is_writable) _ (optional iv_of (attribute pairs (codes "IV"))) _ (optional_fits iv_is_writable iv_of (attribute pairs (codes "IV")) (attribute_fits pairs (codes "IV") h) iv_is_fit) (λ iv i.
      bound (if_some (value_fits true)) _ (optional quoted_of (attribute pairs (codes "KEYFORMAT"))) _ (optional_fits (value_fits true) quoted_of (attribute pairs (codes "KEYFORMAT")) (attribute_fits pairs (codes "KEYFORMAT") h) quoted_fits) (λ format f.
      bound quoted_uri_fits _ (uri_of base reference) _ (quoted_uri base reference r) (λ resource u.
      good before _ (key_from (unwrap_or format (codes "identity")) method resource iv pairs (or_identity format f) m u i h) refl))))

  key_good : (base : Parts) (rest : List ℕ) → Clean rest → Gives (is_good before) (key_said unlimited base rest)
  key_good base rest c =
      bound pairs_fit _ (attributes unlimited rest) _ (attributes_fit rest c) (λ pairs h.
      bound (value_fits false) _ (required false (attribute pairs (codes "METHOD"))) _ (required_fits false _ (attribute_fits pairs (codes "METHOD") h)) (λ method m.
      chosen _ (bytes_eq method (codes "NONE")) _ _ (λ _. good before no_keys refl refl) (λ other.
      set_key_good base pairs method h (and_from _ _ m (not_from_false _ other)))))

  init_section_said_fits : (base : Parts) (rest : List ℕ) → Clean rest → Gives is_fit_init_section (init_section_said unlimited base rest)
  unfolding is_init_section is_fit_init_section
  init_section_said_fits base rest c =
      bound pairs_fit _ (attributes unlimited rest) _ (attributes_fit rest c) (λ pairs h.
      bound (value_fits true) _ (required true (attribute pairs (codes "URI"))) _ (required_fits true _ (attribute_fits pairs (codes "URI") h)) (λ reference r.
      bound (if_some byte_range_fits) _ (optional init_section_byte_range (attribute pairs (codes "BYTERANGE"))) _ (optional_fits byte_range_fits init_section_byte_range (attribute pairs (codes "BYTERANGE")) (attribute_fits pairs (codes "BYTERANGE") h) (λ pair _. init_section_byte_range_fits pair)) (λ part p.
      bound quoted_uri_fits _ (uri_of base reference) _ (quoted_uri base reference r) (λ resource u. answers is_fit_init_section (init_section resource part) (and_from _ _ u p)))))

  placed_init_section : (said : Said) → is_fit_init_section said ≡ true → list_any key_needs_iv (keys_at before) ≡ false → is_good before said ≡ true
  unfolding is_init_section is_fit_init_section
  placed_init_section (init_section resource part) s h = and_from _ _ s (not_from_false _ h)
  placed_init_section _ s h = cc

  date_range_good : (rest : List ℕ) → Clean rest → Gives (is_good before) (date_range_said unlimited rest)
  date_range_good rest c =
      after _ (attributes unlimited rest) _ (λ pairs. after _ (required true (attribute pairs (codes "ID"))) _ (λ id.
      after _ (optional time_of (attribute pairs (codes "START-DATE"))) _ (λ start. after _ (optional time_of (attribute pairs (codes "END-DATE"))) _ (λ end.
      after _ (optional attribute_duration_of (attribute pairs (codes "DURATION"))) _ (λ length. after _ (optional attribute_duration_of (attribute pairs (codes "PLANNED-DURATION"))) _ (λ planned. good before _ (clean_is rest c) refl))))))

  duration_good : (rest : List ℕ) → Clean rest → Gives (is_good before) (duration_said rest)
  duration_good rest c =
      bound duration_fits _ (mended fault.BadDuration (duration_of (before_first (λ b. b == 44) rest))) _
      (told duration_fits fault.BadDuration _ (λ n e. duration_is_small (before_first (λ b. b == 44) rest) n e)) (λ n h.
      good before (duration n (after_first (λ b. b == 44) rest)) (and_from _ _ h (clean_is _ (clean_after (λ b. b == 44) rest (is_low 44 (omega arith)) c))) refl)

  by_tag : (base : Parts) (name : Name) (rest : List ℕ) → Clean rest → Gives (is_good before) (said_by_tag unlimited base before name rest)
  by_tag base version_tag rest c = refused _ (is_set the_version before) _ _ (bound version_reads _ (version_of rest) _ (version_of_fits rest) (λ n h. good before (version n) h refl))
  by_tag base target_tag rest c = refused _ (is_set the_target before) _ _ (bound is_well_formed_number _ (number_said rest) _ (number_fits rest) (λ n h. good before (target n) h refl))
  by_tag base sequence_tag rest c =
      refused _ (is_set the_sequence before) _ _ (guarded _ (has is_media before) _ _ (λ none. bound is_well_formed_number _ (number_said rest) _ (number_fits rest) (λ n h. good before (sequence n) h (not_from_false _ none))))
  by_tag base discontinuity_sequence_tag rest c =
      refused _ (is_set the_discontinuity_sequence before) _ _ (guarded _ (has is_media before || has is_discontinuity before) _ _ (λ none.
      bound is_well_formed_number _ (number_said rest) _ (number_fits rest) (λ n h. let a = or_parts (has is_media before) (has is_discontinuity before) none in good before (discontinuity_sequence n) h (and_from _ _ (not_from_false _ a.0) (not_from_false _ a.1)))))
  by_tag base type_tag rest c = refused _ (is_set the_type before) _ _ (after _ (playlist_type_of rest) _ (λ kind. good before (playlist_type kind) refl refl))
  by_tag base ended_tag rest c = refused _ (has is_ended before) _ _ (good before ended refl refl)
  by_tag base independent_tag rest c = good before independent refl refl
  by_tag base frames_tag rest c = fails _ _
  by_tag base master_tag rest c = fails _ _
  by_tag base duration_tag rest c = duration_good rest c
  by_tag base byte_range_tag rest c = bound byte_range_is_fit _ (byte_range_of rest) _ (byte_range_of_fits rest) (λ r h. good before (byte_range r.0 r.1) h refl)
  by_tag base discontinuity_tag rest c = guarded _ (passes (discontinuity_at before + 1)) _ _ (λ h. good before discontinuity refl (word_below _ h))
  by_tag base key_tag rest c = bound (is_good before) _ (key_said unlimited base rest) _ (key_good base rest c) (λ x h. answers _ x h)
  by_tag base init_section_tag rest c = bound is_fit_init_section _ (init_section_said unlimited base rest) _ (init_section_said_fits base rest c) (λ x s. guarded _ (list_any key_needs_iv (keys_at before)) _ _ (λ h. answers _ x (placed_init_section x s h)))
  by_tag base time_tag rest c = bound in_range _ (or_fault fault.BadTime (instant_of rest)) _ (found in_range fault.BadTime _ (λ t e. said_in_range rest t e)) (λ t h. good before (time t) h refl)
  by_tag base date_range_tag rest c = date_range_good rest c
  by_tag base unknown_tag rest c = good before nothing refl refl

  by_kind : (base : Parts) (kind : Kind) → KindClean kind → Gives (is_good before) (said_by_kind unlimited base before kind)
  by_kind base ignored c = good before nothing refl refl
  by_kind base (uri reference) c =
      refused _ (is_none (own_duration before)) _ _ (guarded _ (passes (media_sequence_at before)) _ _ (λ h.
      bound uri_fits _ (uri_of base reference) _ (plain_uri base reference c) (λ u r. after _ (byte_range_at before u) _ (λ _. good before (media u) r (word_below _ h)))))
  by_kind base (tag name rest colon) c = by_tag base (name_of name colon) rest c

  pub by_line : (base : Parts) (line : List ℕ) → IsUtf8 line → Gives (is_good before) (said_by unlimited base before line)
  by_line base line u = guarded _ (has_control line) _ _ (λ h. by_kind base (kind_of line) (kind_clean line (record { utf8 = u; free = h })))

-- ---- all lines

abbrev pub all_good : List Said → Bool
all_good [] = true
all_good (said ∷ before) = is_good before said && all_good before

pub line_was : {A B : Type 0} (n : ℕ) (o : Outcome A) (f : A → Result B Fault) (y : B) → at_line n o f ≡ Ok y → (x : A) × (o ≡ Ok x) × (f x ≡ Ok y)
line_was n (Ok x) f y h = (x, refl, h)
line_was n (Err e) f y h = cc

pub all_parts : (said : Said) (before : List Said) → all_good (said ∷ before) ≡ true → (is_good before said ≡ true) × (all_good before ≡ true)
all_parts said before h = and_parts (is_good before said) (all_good before) h

pub all_fit : (said : List Said) → all_good said ≡ true → list_all is_fit said ≡ true
all_fit [] h = refl
all_fit (said ∷ before) h = let a = all_parts said before h in and_from _ _ (good_parts before said a.0).0 (all_fit before a.1)

pub good_from : (base : Parts) (before : List Said) (later : List (List ℕ)) (said : List Said)
    → AllByRecursion IsUtf8 later → all_good before ≡ true → said_from (said_by unlimited base) before later ≡ Ok said → all_good said ≡ true
good_from base before [] said u g h = let e : before ≡ said = cc in sym (ap all_good e) ∙ g
good_from base before (line ∷ later) said u g h =
    let w = line_was (length before + 1) (said_by unlimited base before line) (λ s. said_from (said_by unlimited base) (s ∷ before) later) said h in
    good_from base (w.0 ∷ before) later said u.1 (and_from _ _ ((by_line before base line u.0).passes w.0 w.1) g) w.2
