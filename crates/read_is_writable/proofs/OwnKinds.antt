-- What a tag says is a thing of its own kind, whatever the reader.
use Rattle.std.proofs.Common.{ℕ, ◌+◌, Bool, true, false, List, ◌∷◌, length, refl}
use Rattle.std.specs.Prelude.{codes, bytes_eq, ◌||◌, ◌==◌, is_none}
use Rattle.std.specs.List.{list_any, before_first}
use Rattle.url.specs.Parts.{Parts}
use Rattle.fixed_duration.specs.Duration.{duration_of}
use Rattle.attr_list.specs.Attributes.{attribute}
use Rattle.date_times.specs.Instant.{instant_of}
use Rattle.playlist_model.specs.declared.FaultKind.TheVariants as fault
use Rattle.spec_words.specs.Outcomes.{or_fault, mended, optional}
use Rattle.playlist_model.specs.Said.{Name, sequence_tag, version_tag, target_tag, discontinuity_sequence_tag, type_tag, ended_tag, independent_tag, frames_tag, master_tag, duration_tag, byte_range_tag, discontinuity_tag, key_tag, init_section_tag, time_tag, date_range_tag, unknown_tag, Said, nothing, version, target, sequence, discontinuity_sequence, playlist_type, ended, independent, duration, byte_range, discontinuity, no_keys, key, init_section, time, date_range, media, Reader, over, number_said, version_of, playlist_type_of, byte_range_of, attributes, required, iv_of, quoted_of, uri_of, init_section_byte_range, time_of, attribute_duration_of, key_said, init_section_said, date_range_said}
use Rattle.playlist_model.specs.LookBack.{the_version, the_target, the_sequence, the_discontinuity_sequence, the_type, is_media, is_discontinuity, is_ended, count, own_duration, byte_range_at, keys_at, discontinuity_at, media_sequence_at}
use Rattle.playlist_model.specs.Reading.{has, is_set, passes, key_needs_iv, said_by_tag, said_by_uri}
use Rattle.read_is_writable.proofs.Gives.{Gives, answers, fails, refused, chosen, bound, after}

-- what is said is of the tag's kind
abbrev pub is_of : Name → Said → Bool
is_of version_tag (version n) = true
is_of target_tag (target n) = true
is_of sequence_tag (sequence n) = true
is_of discontinuity_sequence_tag (discontinuity_sequence n) = true
is_of type_tag (playlist_type kind) = true
is_of ended_tag ended = true
is_of independent_tag independent = true
is_of duration_tag (duration nanos title) = true
is_of byte_range_tag (byte_range size offset) = true
is_of discontinuity_tag discontinuity = true
is_of key_tag no_keys = true
is_of key_tag (key k) = true
is_of init_section_tag (init_section resource part) = true
is_of time_tag (time instant) = true
is_of date_range_tag (date_range r) = true
is_of unknown_tag nothing = true
is_of _ _ = false

module _ (reader : Reader) (base : Parts) where
  key_kind : (rest : List ℕ) → Gives (is_of key_tag) (key_said reader base rest)
  key_kind rest =
      after _ (attributes reader rest) _ (λ pairs. after _ (required false (attribute pairs (codes "METHOD"))) _ (λ method.
      chosen _ (bytes_eq method (codes "NONE")) _ _ (λ _. answers (is_of key_tag) no_keys refl) (λ _.
      after _ (required true (attribute pairs (codes "URI"))) _ (λ reference. after _ (optional iv_of (attribute pairs (codes "IV"))) _ (λ iv.
      after _ (optional quoted_of (attribute pairs (codes "KEYFORMAT"))) _ (λ format. after _ (uri_of base reference) _ (λ resource. answers (is_of key_tag) _ refl)))))))

  init_section_kind : (rest : List ℕ) → Gives (is_of init_section_tag) (init_section_said reader base rest)
  init_section_kind rest =
      after _ (attributes reader rest) _ (λ pairs. after _ (required true (attribute pairs (codes "URI"))) _ (λ reference.
      after _ (optional init_section_byte_range (attribute pairs (codes "BYTERANGE"))) _ (λ part. after _ (uri_of base reference) _ (λ resource. answers (is_of init_section_tag) (init_section resource part) refl))))

  date_range_kind : (rest : List ℕ) → Gives (is_of date_range_tag) (date_range_said reader rest)
  date_range_kind rest =
      after _ (attributes reader rest) _ (λ pairs. after _ (required true (attribute pairs (codes "ID"))) _ (λ id.
      after _ (optional time_of (attribute pairs (codes "START-DATE"))) _ (λ start. after _ (optional time_of (attribute pairs (codes "END-DATE"))) _ (λ end.
      after _ (optional attribute_duration_of (attribute pairs (codes "DURATION"))) _ (λ length. after _ (optional attribute_duration_of (attribute pairs (codes "PLANNED-DURATION"))) _ (λ planned. answers (is_of date_range_tag) _ refl))))))

  pub tag_kind : (before : List Said) (name : Name) (rest : List ℕ) → Gives (is_of name) (said_by_tag reader base before name rest)
  tag_kind before version_tag rest = refused _ (is_set the_version before) _ _ (after _ (version_of rest) _ (λ n. answers (is_of version_tag) (version n) refl))
  tag_kind before target_tag rest = refused _ (is_set the_target before) _ _ (after _ (number_said rest) _ (λ n. answers (is_of target_tag) (target n) refl))
  tag_kind before sequence_tag rest = refused _ (is_set the_sequence before) _ _ (refused _ (has is_media before) _ _ (after _ (number_said rest) _ (λ n. answers (is_of sequence_tag) (sequence n) refl)))
  tag_kind before discontinuity_sequence_tag rest =
      refused _ (is_set the_discontinuity_sequence before) _ _ (refused _ (has is_media before || has is_discontinuity before) _ _
      (after _ (number_said rest) _ (λ n. answers (is_of discontinuity_sequence_tag) (discontinuity_sequence n) refl)))
  tag_kind before type_tag rest = refused _ (is_set the_type before) _ _ (after _ (playlist_type_of rest) _ (λ kind. answers (is_of type_tag) (playlist_type kind) refl))
  tag_kind before ended_tag rest = refused _ (has is_ended before) _ _ (answers (is_of ended_tag) ended refl)
  tag_kind before independent_tag rest = answers (is_of independent_tag) independent refl
  tag_kind before frames_tag rest = fails _ _
  tag_kind before master_tag rest = fails _ _
  tag_kind before duration_tag rest = after _ (mended fault.BadDuration (duration_of (before_first (λ b. b == 44) rest))) _ (λ n. answers (is_of duration_tag) _ refl)
  tag_kind before byte_range_tag rest = after _ (byte_range_of rest) _ (λ r. answers (is_of byte_range_tag) (byte_range r.0 r.1) refl)
  tag_kind before discontinuity_tag rest = refused _ (passes (discontinuity_at before + 1)) _ _ (answers (is_of discontinuity_tag) discontinuity refl)
  tag_kind before key_tag rest =
      bound (is_of key_tag) _ (key_said reader base rest) _ (key_kind rest) (λ x h. refused _ (over reader.formats (length (keys_at (x ∷ before)))) _ _ (answers (is_of key_tag) x h))
  tag_kind before init_section_tag rest =
      bound (is_of init_section_tag) _ (init_section_said reader base rest) _ (init_section_kind rest) (λ x h. refused _ (list_any key_needs_iv (keys_at before)) _ _ (answers (is_of init_section_tag) x h))
  tag_kind before time_tag rest = after _ (or_fault fault.BadTime (instant_of rest)) _ (λ t. answers (is_of time_tag) (time t) refl)
  tag_kind before date_range_tag rest = date_range_kind rest
  tag_kind before unknown_tag rest = answers (is_of unknown_tag) nothing refl

  pub uri_kind : (before : List Said) (reference : List ℕ) → Gives is_media (said_by_uri reader base before reference)
  uri_kind before reference =
      refused _ (over reader.segments (count is_media before + 1)) _ _ (refused _ (is_none (own_duration before)) _ _ (refused _ (passes (media_sequence_at before)) _ _
      (after _ (uri_of base reference) _ (λ u. after _ (byte_range_at before u) _ (λ _. answers is_media (media u) refl)))))
