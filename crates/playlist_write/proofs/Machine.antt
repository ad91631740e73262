-- All that a reading has come to, line by line.
use Rattle.std.proofs.Common.{◌≡◌, ℕ, ◌+◌, ◌^◌, ◌<◌, true, false, List, [], ◌∷◌, ◌++◌, map, length, refl, ap, sym, ◌∙◌, subst, Ok, Some, None}
use Rattle.std.specs.Prelude.{◌||◌, ◌==◌, Option, is_some, is_none, unwrap_or}
use Rattle.std.specs.List.{list_any}
use Rattle.std.specs.Result.{result_unwrap_or}
use Rattle.url.specs.Parts.{Parts}
use Rattle.playlist_model.specs.declared.ByteRange.{ByteRange}
use Rattle.playlist_model.specs.Segments.{Segment}
use Rattle.playlist_model.specs.declared.DateRange.{DateRange}
use Rattle.date_times.specs.Instant.{in_range}
use Rattle.playlist_model.specs.Said.{Said, nothing, version, target, sequence, discontinuity_sequence, playlist_type, ended, independent, duration, byte_range, discontinuity, no_keys, key, init_section, time, date_range, media, Outcome, date_range_said}
use Rattle.playlist_model.specs.EffectiveKeys.{effective_key}
use Rattle.playlist_model.specs.LookBack.{is_media, is_discontinuity, put_key, extent_with, byte_range_from, Standing, standing_at, segments_of, date_ranges_of}
use Rattle.playlist_model.specs.Inner.Heading.{Heading, heading_at}
use Rattle.playlist_model.specs.Reading.{said_by, said_from, at_line, unlimited, passes, key_needs_iv}
use Rattle.playlist_model.proofs.SaidCounts.{counted_none}
use Rattle.playlist_write.specs.Spelling.{spelled}
use Rattle.writable.specs.Fitting.{is_clean, uri_fits, quoted_uri_fits, if_some, byte_range_fits, key_is_writable}
use Rattle.playlist_write.proofs.CleanTexts.{Clean, AllClean}
use Rattle.playlist_write.proofs.SaidLines as lines

-- what the lines have said, the last first
pub record Known : Type 0 where
  pub heading : Heading
  pub standing : Standing
  pub date_ranges : List DateRange
  pub segments : List Segment

abbrev pub known_at : List Said → Known
known_at before = record {
  heading = heading_at before;
  standing = standing_at before;
  date_ranges = date_ranges_of before;
  segments = segments_of before;
}

abbrev pub number_known : Standing → ℕ
number_known s = s.media_sequence + s.media_count

abbrev pub discontinuity_known : Standing → ℕ
discontinuity_known s = s.discontinuity_sequence + s.discontinuity_count

abbrev pub byte_range_known : Standing → List ℕ → Outcome (Option ByteRange)
byte_range_known s uri = byte_range_from s.byte_range uri s.extent

abbrev pub segment_known : Standing → List ℕ → Segment
segment_known s uri = record {
  media_sequence = number_known s;
  discontinuity_sequence = discontinuity_known s;
  discontinuities = s.discontinuities;
  uri = uri;
  byte_range = result_unwrap_or (byte_range_known s uri) None;
  keys = map (effective_key (number_known s)) s.keys;
  init_section = s.init_section;
  duration = (unwrap_or s.duration (0, [])).0;
  title = (unwrap_or s.duration (0, [])).1;
  program_date_time = s.program_date_time;
}

-- after one more line
abbrev pub heading_after : Heading → Said → Heading
heading_after h (version n) = record h { version = Some n }
heading_after h (target n) = record h { target_duration = Some n }
heading_after h (sequence n) = record h { has_sequence = true }
heading_after h (discontinuity_sequence n) = record h { has_discontinuity_sequence = true }
heading_after h (playlist_type kind) = record h { playlist_type = Some kind }
heading_after h ended = record h { end_list = true }
heading_after h independent = record h { independent_segments = true }
heading_after h (media uri) = record h { has_media = true }
heading_after h _ = h

abbrev pub standing_after : Standing → Said → Standing
standing_after s (sequence n) = record s { media_sequence = n }
standing_after s (discontinuity_sequence n) = record s { discontinuity_sequence = n }
standing_after s (duration n title) = record s { duration = Some (n, title) }
standing_after s (byte_range n o) = record s { byte_range = Some (n, o) }
standing_after s discontinuity = record s { discontinuity_count = s.discontinuity_count + 1; discontinuities = s.discontinuities + 1 }
standing_after s no_keys = record s { keys = [] }
standing_after s (key j) = record s { keys = put_key j s.keys }
standing_after s (init_section uri part) = record s { init_section = Some (record { uri = uri; byte_range = part; keys = s.keys }) }
standing_after s (time t) = record s { program_date_time = Some t }
standing_after s (media uri) = record s {
  media_count = s.media_count + 1;
  discontinuities = 0;
  duration = None;
  byte_range = None;
  program_date_time = None;
  extent = extent_with uri (result_unwrap_or (byte_range_known s uri) None);
}
standing_after s _ = s

abbrev pub date_ranges_after : List DateRange → Said → List DateRange
date_ranges_after date_ranges (date_range r) = date_ranges ++ r ∷ []
date_ranges_after date_ranges _ = date_ranges

abbrev pub segments_after : Known → Said → List Segment
segments_after k (media uri) = k.segments ++ segment_known k.standing uri ∷ []
segments_after k _ = k.segments

abbrev pub step : Known → Said → Known
step k s = record {
  heading = heading_after k.heading s;
  standing = standing_after k.standing s;
  date_ranges = date_ranges_after k.date_ranges s;
  segments = segments_after k s;
}

-- the look-back definitions say the same
known-step : (s : Said) (before : List Said) → known_at (s ∷ before) ≡ step (known_at before) s
known-step nothing before = refl
known-step (version n) before = refl
known-step (target n) before = refl
known-step (sequence n) before = refl
known-step (discontinuity_sequence n) before = refl
known-step (playlist_type kind) before = refl
known-step ended before = refl
known-step independent before = refl
known-step (duration n title) before = refl
known-step (byte_range n o) before = refl
known-step discontinuity before = refl
known-step no_keys before = refl
known-step (key j) before = refl
known-step (init_section uri part) before = refl
known-step (time t) before = refl
known-step (date_range r) before = refl
known-step (media uri) before = refl

-- ---- some lines

abbrev pub onto : List Said → List Said → List Said
onto before [] = before
onto before (s ∷ later) = onto (s ∷ before) later

abbrev pub run : Known → List Said → Known
run k [] = k
run k (s ∷ later) = run (step k s) later

pub known_onto : (later before : List Said) → known_at (onto before later) ≡ run (known_at before) later
known_onto [] before = refl
known_onto (s ∷ later) before = known_onto later (s ∷ before) ∙ ap (λ k. run k later) (known-step s before)

-- ---- when a line can stand, and what it can say

abbrev pub Allows : Known → Said → Type 0
Allows k (version n) = is_some k.heading.version ≡ false
Allows k (target n) = is_some k.heading.target_duration ≡ false
Allows k (sequence n) = (k.heading.has_sequence ≡ false) × (k.standing.media_count ≡ 0)
Allows k (discontinuity_sequence n) =
    (k.heading.has_discontinuity_sequence ≡ false) × (k.standing.media_count ≡ 0) × (k.standing.discontinuity_count ≡ 0)
Allows k (playlist_type kind) = is_some k.heading.playlist_type ≡ false
Allows k ended = k.heading.end_list ≡ false
Allows k discontinuity = passes (discontinuity_known k.standing + 1) ≡ false
Allows k (init_section uri part) = list_any key_needs_iv k.standing.keys ≡ false
Allows k (media uri) =
    (is_none k.standing.duration ≡ false) × (passes (number_known k.standing) ≡ false) × (r : Option ByteRange) × (byte_range_known k.standing uri ≡ Ok r)
Allows k _ = Unit {0}

abbrev pub Fits : Said → Type 0
Fits nothing = ⊥
Fits (version n) = (n == 6 || n == 7) ≡ true
Fits (target n) = n < 2 ^ 64
Fits (sequence n) = n < 2 ^ 64
Fits (discontinuity_sequence n) = n < 2 ^ 64
Fits (duration n title) = (n < 10 ^ 15) × (is_clean title ≡ true)
Fits (byte_range n None) = ⊥
Fits (byte_range n (Some o)) = n + o < 2 ^ 64
Fits (key k) = key_is_writable k ≡ true
Fits (init_section uri part) = (quoted_uri_fits uri ≡ true) × (if_some byte_range_fits part ≡ true)
Fits (time t) = in_range t ≡ true
Fits (date_range r) = (is_clean r.attributes ≡ true) × (date_range_said unlimited r.attributes ≡ Ok (date_range r))
Fits (media uri) = uri_fits uri ≡ true
Fits _ = Unit {0}

-- lines that fit and can stand
abbrev pub Allowed : Known → List Said → Type 0
Allowed k [] = Unit {0}
Allowed k (s ∷ later) = Fits s × Allows k s × Allowed (step k s) later

module _ (base : Parts) where
  line_reads : (s : Said) (before : List Said) → Fits s → Allows (known_at before) s → Clean (spelled s) × (said_by unlimited base before (spelled s) ≡ Ok s)
  line_reads nothing before f a = absurd f
  line_reads (version n) before f a = lines.version_line base before n f a
  line_reads (target n) before f a = lines.target_line base before n f a
  line_reads (sequence n) before f a = lines.sequence_line base before n f a.0 (counted_none is_media before a.1)
  line_reads (discontinuity_sequence n) before f a = lines.discontinuity_sequence_line base before n f a.0 (counted_none is_media before a.1) (counted_none is_discontinuity before a.2)
  line_reads (playlist_type kind) before f a = lines.type_line base before kind a
  line_reads ended before f a = lines.ended_line base before a
  line_reads independent before f a = lines.independent_line base before
  line_reads (duration n title) before f a = lines.duration_line base before n title f.0 (lines.clean_is title f.1)
  line_reads (byte_range n None) before f a = absurd f
  line_reads (byte_range n (Some o)) before f a = lines.ended_date_range_line base before n o f
  line_reads discontinuity before f a = lines.discontinuity_line base before a
  line_reads no_keys before f a = lines.no_keys_line base before
  line_reads (key k) before f a = lines.key_line base before k f
  line_reads (init_section uri part) before f a = lines.init_section_line base before uri part f.0 f.1 a
  line_reads (time t) before f a = lines.time_line base before t f
  line_reads (date_range r) before f a = lines.date_range_line base before r f.0 f.1
  line_reads (media uri) before f a = lines.media_line base before uri a.2 f a.0 a.1 a.3

  pub said_onto : (later before : List Said) → Allowed (known_at before) later → AllClean (map (spelled) later) × (said_from (said_by unlimited base) before (map (spelled) later) ≡ Ok (onto before later))
  said_onto [] before h = (tt, refl)
  said_onto (s ∷ later) before h =
      let here = line_reads s before h.0 h.1 in
      let rest = said_onto later (s ∷ before) (subst (λ k. Allowed k later) (sym (known-step s before)) h.2) in (
        (here.0, rest.0),
        ap (λ o. at_line (length before + 1) o (λ said. said_from (said_by unlimited base) (said ∷ before) (map (spelled) later))) here.1 ∙ rest.1,
      )
