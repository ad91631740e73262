-- After a segment no line says the first number of the playlist (RFC 8216, 4.3.3.2 and 4.3.3.3).
use Rattle.std.proofs.Common.{◌≡◌, ℕ, ◌+◌, Bool, true, false, List, ◌∷◌, length, refl}
use Rattle.std.specs.Prelude.{Ok, Err, codes, bytes_eq, ◌||◌, ◌==◌, is_none, if◌then◌else◌}
use Rattle.std.specs.List.{list_any, before_first}
use Rattle.url.specs.Parts.{Parts}
use Rattle.fixed_duration.specs.Duration.{duration_of}
use Rattle.attr_list.specs.Attributes.{attribute, Pair}
use Rattle.date_times.specs.Instant.{instant_of}
use Rattle.playlist_model.specs.declared.FaultKind.{FaultKind}
use Rattle.playlist_model.specs.declared.FaultKind.TheVariants as fault
use Rattle.playlist_model.specs.Lines.{Kind, ignored, uri, tag, kind_of, has_control}
use Rattle.spec_words.specs.Outcomes.{or_fault, mended, optional, ◌>>=◌, refuse_if}
use Rattle.playlist_model.specs.Said.{Name, sequence_tag, version_tag, target_tag, discontinuity_sequence_tag, type_tag, ended_tag, independent_tag, frames_tag, master_tag, duration_tag, byte_range_tag, discontinuity_tag, key_tag, init_section_tag, time_tag, date_range_tag, unknown_tag, Said, sequence, discontinuity_sequence, Reader, over, number_said, version_of, playlist_type_of, byte_range_of, attributes, required, iv_of, quoted_of, uri_of, init_section_byte_range, time_of, attribute_duration_of, set_key, key_said, init_section_said, date_range_said, Outcome}
use Rattle.playlist_model.specs.LookBack.{the_version, the_target, the_sequence, the_discontinuity_sequence, the_type, is_media, is_discontinuity, is_ended, count, own_duration, byte_range_at, keys_at, discontinuity_at, media_sequence_at}
use Rattle.playlist_model.specs.Reading.{has, is_set, passes, key_needs_iv, name_of, within_formats, with_ivs, said_by_tag, said_by_uri, said_by_kind, said_by}

-- what says no first number
abbrev pub is_other : Said → Bool
is_other (sequence n) = false
is_other (discontinuity_sequence n) = false
is_other _ = true

abbrev pub Other : Outcome Said → Type 0
Other (Ok said) = is_other said ≡ true
Other (Err e) = Unit {0}

after : {A : Type 0} (o : Outcome A) (f : A → Outcome Said) → ((x : A) → Other (f x)) → Other (o >>= f)
after (Ok x) f h = h x
after (Err e) f h = tt

bound : (o : Outcome Said) (f : Said → Outcome Said) → Other o → ((said : Said) → is_other said ≡ true → Other (f said)) → Other (o >>= f)
bound (Ok said) f o_other h = h said o_other
bound (Err e) f o_other h = tt

chosen : (b : Bool) (x y : Outcome Said) → Other x → Other y → Other (if b then x else y)
chosen true x y h k = h
chosen false x y h k = k

refused : (b : Bool) (e : FaultKind) (o : Outcome Said) → Other o → Other (refuse_if b e o)
refused true e o h = tt
refused false e o h = h

always : (b : Bool) (e : FaultKind) (o : Outcome Said) → b ≡ true → Other (refuse_if b e o)
always true e o h = tt
always false e o h = absurd (cc h)

or_is : (a b : Bool) → a ≡ true → (a || b) ≡ true
or_is a b h = rw h refl

module _ (reader : Reader) (base : Parts) where
  set_other : (pairs : List Pair) (method : List ℕ) → Other (set_key base pairs method)
  set_other pairs method =
      after (required true (attribute pairs (codes "URI"))) _ (λ reference. after (optional iv_of (attribute pairs (codes "IV"))) _ (λ iv.
      after (optional quoted_of (attribute pairs (codes "KEYFORMAT"))) _ (λ format. after (uri_of base reference) _ (λ resource. refl))))

  key_other : (rest : List ℕ) → Other (key_said reader base rest)
  key_other rest =
      after (attributes reader rest) _ (λ pairs. after (required false (attribute pairs (codes "METHOD"))) _ (λ method.
      chosen (bytes_eq method (codes "NONE")) _ _ refl (set_other pairs method)))

  init_section_other : (rest : List ℕ) → Other (init_section_said reader base rest)
  init_section_other rest =
      after (attributes reader rest) _ (λ pairs. after (required true (attribute pairs (codes "URI"))) _ (λ reference.
      after (optional init_section_byte_range (attribute pairs (codes "BYTERANGE"))) _ (λ part. after (uri_of base reference) _ (λ resource. refl))))

  date_range_other : (rest : List ℕ) → Other (date_range_said reader rest)
  date_range_other rest =
      after (attributes reader rest) _ (λ pairs. after (required true (attribute pairs (codes "ID"))) _ (λ id.
      after (optional time_of (attribute pairs (codes "START-DATE"))) _ (λ start. after (optional time_of (attribute pairs (codes "END-DATE"))) _ (λ end.
      after (optional attribute_duration_of (attribute pairs (codes "DURATION"))) _ (λ length. after (optional attribute_duration_of (attribute pairs (codes "PLANNED-DURATION"))) _ (λ planned. refl))))))

  tag_other : (before : List Said) (name : Name) (rest : List ℕ) → has is_media before ≡ true → Other (said_by_tag reader base before name rest)
  tag_other before version_tag rest h = refused (is_set the_version before) _ _ (after (version_of rest) _ (λ n. refl))
  tag_other before target_tag rest h = refused (is_set the_target before) _ _ (after (number_said rest) _ (λ n. refl))
  tag_other before sequence_tag rest h = refused (is_set the_sequence before) _ _ (always (has is_media before) _ _ h)
  tag_other before discontinuity_sequence_tag rest h =
      refused (is_set the_discontinuity_sequence before) _ _ (always (has is_media before || has is_discontinuity before) _ _ (or_is _ _ h))
  tag_other before type_tag rest h = refused (is_set the_type before) _ _ (after (playlist_type_of rest) _ (λ kind. refl))
  tag_other before ended_tag rest h = refused (has is_ended before) _ _ refl
  tag_other before independent_tag rest h = refl
  tag_other before frames_tag rest h = tt
  tag_other before master_tag rest h = tt
  tag_other before duration_tag rest h = after (mended fault.BadDuration (duration_of (before_first (λ b. b == 44) rest))) _ (λ n. refl)
  tag_other before byte_range_tag rest h = after (byte_range_of rest) _ (λ r. refl)
  tag_other before discontinuity_tag rest h = refused (passes (discontinuity_at before + 1)) _ _ refl
  tag_other before key_tag rest h =
      bound (key_said reader base rest) (within_formats reader before) (key_other rest) (λ x is. refused (over reader.formats (length (keys_at (x ∷ before)))) _ (Ok x) is)
  tag_other before init_section_tag rest h =
      bound (init_section_said reader base rest) (with_ivs before) (init_section_other rest) (λ x is. refused (list_any key_needs_iv (keys_at before)) _ (Ok x) is)
  tag_other before time_tag rest h = after (or_fault fault.BadTime (instant_of rest)) _ (λ t. refl)
  tag_other before date_range_tag rest h = date_range_other rest
  tag_other before unknown_tag rest h = refl

  uri_other : (before : List Said) (reference : List ℕ) → Other (said_by_uri reader base before reference)
  uri_other before reference =
      refused (over reader.segments (count is_media before + 1)) _ _ (refused (is_none (own_duration before)) _ _ (refused (passes (media_sequence_at before)) _ _
      (after (uri_of base reference) _ (λ u. after (byte_range_at before u) _ (λ _. refl)))))

  kind_other : (before : List Said) (kind : Kind) → has is_media before ≡ true → Other (said_by_kind reader base before kind)
  kind_other before ignored h = refl
  kind_other before (uri reference) h = uri_other before reference
  kind_other before (tag name rest colon) h = tag_other before (name_of name colon) rest h

  pub line_other : (before : List Said) (line : List ℕ) → has is_media before ≡ true → Other (said_by reader base before line)
  line_other before line h = refused (has_control line) _ _ (kind_other before (kind_of line) h)
