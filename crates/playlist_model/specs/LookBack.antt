-- What stands at a line, looking back from it. `before` is what the lines before it say, the last
-- line first.
use Rattle.std.specs.Prelude.{ℕ, ◌+◌, Bool, true, false, not, ◌&&◌, List, [], ◌∷◌, ◌++◌, filter, map, length, ℤ, Option, Some, None, unwrap_or, bytes_eq, Ok, Err, if◌then◌else◌}
use Rattle.std.specs.List.{list_all}
use Rattle.std.specs.Ordering.{nat_cmp, is_lt}
use Rattle.std.specs.Cmp.Lexicographic.{slice_cmp}
use Rattle.std.specs.Result.{result_unwrap_or}
use Rattle.playlist_model.specs.declared.FaultKind.TheVariants as fault
use Rattle.playlist_model.specs.declared.PlaylistKind.{PlaylistKind}
use Rattle.playlist_model.specs.declared.Key.{Key}
use Rattle.playlist_model.specs.declared.ByteRange.{ByteRange}
use Rattle.playlist_model.specs.declared.InitSection.{InitSection}
use Rattle.playlist_model.specs.Segments.{Segment}
use Rattle.playlist_model.specs.declared.DateRange.{DateRange}
use Rattle.playlist_model.specs.EffectiveKeys.{effective_key}
use Rattle.spec_words.specs.Outcomes.{refuse_if}
use Rattle.playlist_model.specs.Said.{Said, version, target, sequence, discontinuity_sequence, playlist_type, ended, independent, duration, byte_range, discontinuity, no_keys, key, init_section, time, date_range, media, Outcome, byte_range_end_fits}

-- ---- the last line that says something (RFC 8216, 4.3)

abbrev pub or_earlier : {A : Type 0} → Option A → Option A → Option A
or_earlier (Some x) earlier = Some x
or_earlier None earlier = earlier

-- the last answer that is one
abbrev pub latest : {A : Type 0} → (Said → Option A) → List Said → Option A
latest answer [] = None
latest answer (said ∷ before) = or_earlier (answer said) (latest answer before)

-- EXT-X-VERSION (4.3.1.2)
abbrev pub the_version : Said → Option ℕ
the_version (version n) = Some n
the_version _ = None

-- EXT-X-TARGETDURATION (4.3.3.1)
abbrev pub the_target : Said → Option ℕ
the_target (target n) = Some n
the_target _ = None

-- EXT-X-MEDIA-SEQUENCE (4.3.3.2)
abbrev pub the_sequence : Said → Option ℕ
the_sequence (sequence n) = Some n
the_sequence _ = None

-- EXT-X-DISCONTINUITY-SEQUENCE (4.3.3.3)
abbrev pub the_discontinuity_sequence : Said → Option ℕ
the_discontinuity_sequence (discontinuity_sequence n) = Some n
the_discontinuity_sequence _ = None

-- EXT-X-PLAYLIST-TYPE (4.3.3.5)
abbrev pub the_type : Said → Option PlaylistKind
the_type (playlist_type kind) = Some kind
the_type _ = None

-- EXTINF (4.3.2.1): the duration in nanoseconds, and the title
abbrev pub the_duration : Said → Option (ℕ × List ℕ)
the_duration (duration nanos title) = Some (nanos, title)
the_duration _ = None

-- EXT-X-BYTERANGE (4.3.2.2): the length, and the offset if it is stated
abbrev pub the_byte_range : Said → Option (ℕ × Option ℕ)
the_byte_range (byte_range length offset) = Some (length, offset)
the_byte_range _ = None

-- EXT-X-PROGRAM-DATE-TIME (4.3.2.6)
abbrev pub the_time : Said → Option ℤ
the_time (time instant) = Some instant
the_time _ = None

-- a URI line (4.1), with which a segment ends
abbrev pub is_media : Said → Bool
is_media (media uri) = true
is_media _ = false

-- EXT-X-DISCONTINUITY (4.3.2.3)
abbrev pub is_discontinuity : Said → Bool
is_discontinuity discontinuity = true
is_discontinuity _ = false

-- EXT-X-ENDLIST (4.3.3.4)
abbrev pub is_ended : Said → Bool
is_ended ended = true
is_ended _ = false

-- EXT-X-INDEPENDENT-SEGMENTS (4.3.5.1)
abbrev pub is_independent : Said → Bool
is_independent independent = true
is_independent _ = false

-- how many lines pass
abbrev pub count : (Said → Bool) → List Said → ℕ
count test [] = 0
count test (said ∷ before) = if test said then count test before + 1 else count test before

-- ---- the tags of one segment: those that apply to the next media segment alone (4.3.2)

-- the lines since the last URI
abbrev pub since_media : List Said → List Said
since_media [] = []
since_media (said ∷ before) = if is_media said then [] else said ∷ since_media before

-- its EXTINF (4.3.2.1)
abbrev pub own_duration : List Said → Option (ℕ × List ℕ)
own_duration before = latest the_duration (since_media before)

-- its EXT-X-BYTERANGE (4.3.2.2)
abbrev pub own_byte_range : List Said → Option (ℕ × Option ℕ)
own_byte_range before = latest the_byte_range (since_media before)

-- its EXT-X-PROGRAM-DATE-TIME (4.3.2.6)
abbrev pub own_time : List Said → Option ℤ
own_time before = latest the_time (since_media before)

-- ---- numbers (4.3.3.2, 4.3.3.3)

-- the Media Sequence Number of the segment of a URI line here: that of the first, 0 if none is stated, and one more
-- for each segment before (4.3.3.2)
abbrev pub media_sequence_at : List Said → ℕ
media_sequence_at before = unwrap_or (latest the_sequence before) 0 + count is_media before

-- its Discontinuity Sequence Number: the stated one, 0 if there is none, and one more for each EXT-X-DISCONTINUITY
-- before (4.3.3.3)
abbrev pub discontinuity_at : List Said → ℕ
discontinuity_at before = unwrap_or (latest the_discontinuity_sequence before) 0 + count is_discontinuity before

-- how many EXT-X-DISCONTINUITY stand between the segment before and this one (4.3.2.3)
abbrev pub steps_at : List Said → ℕ
steps_at before = count is_discontinuity (since_media before)

-- ---- keys (4.3.2.4, 5.2)

-- without the key of this format
abbrev pub without_format : List ℕ → List Key → List Key
without_format format keys = filter (λ (k : Key). not (bytes_eq format k.format)) keys

-- whether the format of the first key comes before that of the second, by bytes
abbrev pub is_before : Key → Key → Bool
is_before k j = is_lt (slice_cmp nat_cmp k.format j.format)

-- the keys with this one before the first of a later format
abbrev pub insert_key : Key → List Key → List Key
insert_key k [] = k ∷ []
insert_key k (j ∷ keys) = if is_before k j then k ∷ j ∷ keys else j ∷ insert_key k keys

-- this key in its place, and none other of its format
abbrev pub put_key : Key → List Key → List Key
put_key k keys = insert_key k (without_format k.format keys)

-- the keys in force, sorted by format: of each format the last since METHOD=NONE
abbrev pub keys_at : List Said → List Key
keys_at [] = []
keys_at (no_keys ∷ before) = []
keys_at (key k ∷ before) = put_key k (keys_at before)
keys_at (_ ∷ before) = keys_at before

-- each key stands before all later ones: sorted by the bytes of the format, with one key for each
abbrev pub are_sorted : List Key → Bool
are_sorted [] = true
are_sorted (k ∷ keys) = list_all (is_before k) keys && are_sorted keys

-- the key of a format: the last one since METHOD=NONE
abbrev pub key_of : List ℕ → List Said → Option Key
key_of format [] = None
key_of format (no_keys ∷ before) = None
key_of format (key k ∷ before) = if bytes_eq format k.format then Some k else key_of format before
key_of format (_ ∷ before) = key_of format before

-- whether a key is of this format
abbrev pub has_format : List ℕ → Key → Bool
has_format format k = bytes_eq format k.format

-- ---- the initialisation section (4.3.2.5)

-- the last one, with the keys in force at its own line
abbrev pub init_section_at : List Said → Option InitSection
init_section_at [] = None
init_section_at (init_section uri part ∷ before) = Some (record { uri = uri; byte_range = part; keys = keys_at before })
init_section_at (_ ∷ before) = init_section_at before

-- ---- the byte range (4.3.2.2)

-- a resource and the byte range of it that a segment has
pub record Extent : Type 0 where
  pub uri : List ℕ
  pub byte_range : ByteRange

-- the byte range of this length that begins at this place, if its end fits
abbrev pub byte_range_here : ℕ → ℕ → Outcome (Option ByteRange)
byte_range_here length offset =
    refuse_if (not (byte_range_end_fits length offset)) fault.BadRange (Ok (Some (record { length = length; offset = offset })))

-- the byte range that begins where the previous segment's byte range of the same resource ends
abbrev pub byte_range_after : ℕ → List ℕ → Option Extent → Outcome (Option ByteRange)
byte_range_after length uri None = Err fault.RangeNoStart
byte_range_after length uri (Some previous) =
    refuse_if (not (bytes_eq uri previous.uri)) fault.RangeNoStart (byte_range_here length (previous.byte_range.offset + previous.byte_range.length))

abbrev pub byte_range_from : Option (ℕ × Option ℕ) → List ℕ → Option Extent → Outcome (Option ByteRange)
byte_range_from None uri previous = Ok None
byte_range_from (Some (length, Some offset)) uri previous = Ok (Some (record { length = length; offset = offset }))
byte_range_from (Some (length, None)) uri previous = byte_range_after length uri previous

abbrev pub extent_with : List ℕ → Option ByteRange → Option Extent
extent_with uri None = None
extent_with uri (Some r) = Some (record { uri = uri; byte_range = r })

-- the last segment's resource and byte range, if it has a byte range; a line that was refused has none, but
-- then no line after it is read
abbrev pub last_extent : List Said → Option Extent
last_extent [] = None
last_extent (media uri ∷ before) = extent_with uri (result_unwrap_or (byte_range_from (own_byte_range before) uri (last_extent before)) None)
last_extent (_ ∷ before) = last_extent before

abbrev pub byte_range_at : List Said → List ℕ → Outcome (Option ByteRange)
byte_range_at before uri = byte_range_from (own_byte_range before) uri (last_extent before)

-- ---- the segment of a URI line (4.3.2)

abbrev pub segment_at : List Said → List ℕ → Segment
segment_at before uri = record {
  media_sequence = media_sequence_at before;
  discontinuity_sequence = discontinuity_at before;
  discontinuities = steps_at before;
  uri = uri;
  byte_range = result_unwrap_or (byte_range_at before uri) None;
  keys = map (effective_key (media_sequence_at before)) (keys_at before);
  init_section = init_section_at before;
  duration = (unwrap_or (own_duration before) (0, [])).0;
  title = (unwrap_or (own_duration before) (0, [])).1;
  program_date_time = own_time before;
}

-- the segments of these lines, in order
abbrev pub segments_of : List Said → List Segment
segments_of [] = []
segments_of (media uri ∷ before) = segments_of before ++ segment_at before uri ∷ []
segments_of (_ ∷ before) = segments_of before

-- the date ranges of these lines, in order (4.3.2.7)
abbrev pub date_ranges_of : List Said → List DateRange
date_ranges_of [] = []
date_ranges_of (date_range r ∷ before) = date_ranges_of before ++ r ∷ []
date_ranges_of (_ ∷ before) = date_ranges_of before

-- ---- all that a reader has to keep

-- what stands at a line
pub record Standing : Type 0 where
  pub media_sequence : ℕ
  pub discontinuity_sequence : ℕ
  pub media_count : ℕ
  pub discontinuity_count : ℕ
  pub discontinuities : ℕ
  pub duration : Option (ℕ × List ℕ)
  pub byte_range : Option (ℕ × Option ℕ)
  pub program_date_time : Option ℤ
  pub keys : List Key
  pub init_section : Option InitSection
  pub extent : Option Extent

abbrev pub standing_at : List Said → Standing
standing_at before = record {
  media_sequence = unwrap_or (latest the_sequence before) 0;
  discontinuity_sequence = unwrap_or (latest the_discontinuity_sequence before) 0;
  media_count = count is_media before;
  discontinuity_count = count is_discontinuity before;
  discontinuities = steps_at before;
  duration = own_duration before;
  byte_range = own_byte_range before;
  program_date_time = own_time before;
  keys = keys_at before;
  init_section = init_section_at before;
  extent = last_extent before;
}

-- what the lines say with the next one, the last first, if it says something
abbrev pub with_said : List Said → Outcome Said → List Said
with_said before (Ok said) = said ∷ before
with_said before (Err e) = before
