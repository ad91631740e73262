-- What stands after one line more.
use Rattle.std.proofs.Common.{◌≡◌, ℕ, ◌+◌, true, List, [], ◌∷◌, ◌++◌, length, map, refl, ap, arith}
use Rattle.std.specs.Prelude.{Some, None, unwrap_or}
use Rattle.std.specs.Result.{result_unwrap_or}
use Rattle.playlist_model.specs.Segments.{Segment}
use Rattle.playlist_model.specs.declared.DateRange.{DateRange}
use Rattle.playlist_model.specs.EffectiveKeys.{effective_key}
use Rattle.playlist_model.specs.Said.{Said, nothing, version, target, sequence, discontinuity_sequence, playlist_type, ended, independent, duration, byte_range, discontinuity, no_keys, key, init_section, time, date_range, media}
use Rattle.playlist_model.specs.LookBack.{latest, the_sequence, the_discontinuity_sequence, is_media, count, byte_range_from, extent_with, put_key, segments_of, date_ranges_of}
use Rattle.playlist_model.specs.Inner.Heading.{Heading}
use Rattle.playlist_parse.specs.Inner.Resumed.{Scene, scene_at, Alike}
use Rattle.playlist_parse.proofs.OtherKinds.{is_other}

abbrev with_heading : Scene → Heading → Scene
with_heading s h = record s { heading = h }

-- after a line that says this
abbrev pub stepped : Said → Scene → Scene
stepped nothing s = s
stepped (version n) s = with_heading s (record s.heading { version = Some n })
stepped (target n) s = with_heading s (record s.heading { target_duration = Some n })
stepped (sequence n) s = s
stepped (discontinuity_sequence n) s = s
stepped (playlist_type kind) s = with_heading s (record s.heading { playlist_type = Some kind })
stepped ended s = with_heading s (record s.heading { end_list = true })
stepped independent s = with_heading s (record s.heading { independent_segments = true })
stepped (duration nanos title) s = record s { duration = Some (nanos, title) }
stepped (byte_range size offset) s = record s { byte_range = Some (size, offset) }
stepped discontinuity s = record s { discontinuity = s.discontinuity + 1; steps = s.steps + 1 }
stepped no_keys s = record s { keys = [] }
stepped (key k) s = record s { keys = put_key k s.keys }
stepped (init_section resource part) s = record s { init_section = Some (record { uri = resource; byte_range = part; keys = s.keys }) }
stepped (time instant) s = record s { time = Some instant }
stepped (date_range r) s = s
stepped (media resource) s = record s {
  heading = record s.heading { has_media = true };
  number = s.number + 1;
  steps = 0;
  duration = None;
  byte_range = None;
  time = None;
  extent = extent_with resource (result_unwrap_or (byte_range_from s.byte_range resource s.extent) None);
}

one_more : (a n : ℕ) → a + (n + 1) ≡ a + n + 1
one_more a n = omega arith

-- ---- what the line adds

abbrev pub segment_of : Scene → List ℕ → Segment
segment_of s resource = record {
  media_sequence = s.number;
  discontinuity_sequence = s.discontinuity;
  discontinuities = s.steps;
  uri = resource;
  byte_range = result_unwrap_or (byte_range_from s.byte_range resource s.extent) None;
  keys = map (effective_key s.number) s.keys;
  init_section = s.init_section;
  duration = (unwrap_or s.duration (0, [])).0;
  title = (unwrap_or s.duration (0, [])).1;
  program_date_time = s.time;
}

abbrev pub segments_said : Said → Scene → List Segment
segments_said (media resource) s = segment_of s resource ∷ []
segments_said _ s = []

abbrev pub date_ranges_said : Said → List DateRange
date_ranges_said (date_range r) = r ∷ []
date_ranges_said _ = []

pub none_after : {A : Type 0} (xs : List A) → xs ≡ xs ++ []
none_after [] = refl
none_after (x ∷ xs) = ap (λ ys. x ∷ ys) (none_after xs)

pub segments_step : (said : Said) (before : List Said) → segments_of (said ∷ before) ≡ segments_of before ++ segments_said said (scene_at before)
segments_step (media resource) before = refl
segments_step _ before = none_after (segments_of before)

pub date_ranges_step : (said : Said) (before : List Said) → date_ranges_of (said ∷ before) ≡ date_ranges_of before ++ date_ranges_said said
date_ranges_step (date_range r) before = refl
date_ranges_step _ before = none_after (date_ranges_of before)

none_more : (n : ℕ) → n ≡ n + 0
none_more n = omega arith

pub count_step : (said : Said) (before : List Said) (s : Scene) → count is_media (said ∷ before) ≡ count is_media before + length (segments_said said s)
count_step (media resource) before s = omega arith
count_step _ before s = none_more (count is_media before)

pub sequence_step : (said : Said) (before : List Said) → is_other said ≡ true → latest the_sequence (said ∷ before) ≡ latest the_sequence before
sequence_step (sequence n) before h = absurd (cc h)
sequence_step _ before h = refl

pub discontinuity_sequence_step : (said : Said) (before : List Said) → is_other said ≡ true → latest the_discontinuity_sequence (said ∷ before) ≡ latest the_discontinuity_sequence before
discontinuity_sequence_step (discontinuity_sequence n) before h = absurd (cc h)
discontinuity_sequence_step _ before h = refl

-- ---- alike after it

pub alike_next : (said : Said) (old new : List Said) → is_other said ≡ true → Alike old new → Alike (said ∷ old) (said ∷ new)
alike_next said old new h alike = grind arith
