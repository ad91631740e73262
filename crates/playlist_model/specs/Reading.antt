-- The denotation of a playlist's bytes, or its first fault.
use Rattle.std.specs.Prelude.{◌≡◌, ℕ, ◌+◌, ◌^◌, Bool, true, false, not, ◌&&◌, ◌||◌, nat_le, List, [], ◌∷◌, length, codes, Option, Some, None, is_none, is_some, unwrap_or, bytes_eq, Result, Ok, Err, if◌then◌else◌}
use Rattle.std.specs.List.{list_any, list_all, find}
use Rattle.std.specs.Str.{is_utf8}
use Rattle.std.specs.Str.Lines.{lines}
use Rattle.url.specs.Parts.{Parts}
use Rattle.playlist_model.specs.declared.FaultKind.{FaultKind}
use Rattle.playlist_model.specs.declared.FaultKind.TheVariants as fault
use Rattle.playlist_model.specs.declared.PlaylistFault.{PlaylistFault}
use Rattle.playlist_model.specs.declared.Key.{Key}
use Rattle.playlist_model.specs.Segments.{Segment}
use Rattle.playlist_model.specs.declared.Playlist.{Playlist}
use Rattle.playlist_model.specs.Lines.{Kind, ignored, uri, tag, kind_of, has_control}
use Rattle.date_times.specs.Instant.{instant_of}
use Rattle.spec_words.specs.Outcomes.{◌>>=◌, or_fault, refuse_if}
use Rattle.playlist_model.specs.Said.{Name, version_tag, target_tag, sequence_tag, discontinuity_sequence_tag, type_tag, ended_tag, independent_tag, frames_tag, master_tag, duration_tag, byte_range_tag, discontinuity_tag, key_tag, init_section_tag, time_tag, date_range_tag, unknown_tag, Said, nothing, version, target, sequence, discontinuity_sequence, playlist_type, ended, independent, byte_range, discontinuity, time, media, Outcome, over, Reader, number_said, version_of, playlist_type_of, duration_said, byte_range_of, key_said, init_section_said, date_range_said, uri_of}
use Rattle.playlist_model.specs.LookBack.{latest, the_version, the_target, the_sequence, the_discontinuity_sequence, the_type, is_media, is_discontinuity, is_ended, is_independent, count, own_duration, media_sequence_at, discontinuity_at, keys_at, byte_range_at, segments_of, date_ranges_of}

-- ---- the tags by name (RFC 8216, 4.3)

-- a name, and whether it is a flag, which takes no `:`
abbrev pub tag_names : List (List ℕ × Bool × Name)
tag_names =
    (codes "EXTINF", false, duration_tag)
    ∷ (codes "EXT-X-BYTERANGE", false, byte_range_tag)
    ∷ (codes "EXT-X-DISCONTINUITY", true, discontinuity_tag)
    ∷ (codes "EXT-X-KEY", false, key_tag)
    ∷ (codes "EXT-X-MAP", false, init_section_tag)
    ∷ (codes "EXT-X-PROGRAM-DATE-TIME", false, time_tag)
    ∷ (codes "EXT-X-DATERANGE", false, date_range_tag)
    ∷ (codes "EXT-X-VERSION", false, version_tag)
    ∷ (codes "EXT-X-TARGETDURATION", false, target_tag)
    ∷ (codes "EXT-X-MEDIA-SEQUENCE", false, sequence_tag)
    ∷ (codes "EXT-X-DISCONTINUITY-SEQUENCE", false, discontinuity_sequence_tag)
    ∷ (codes "EXT-X-PLAYLIST-TYPE", false, type_tag)
    ∷ (codes "EXT-X-ENDLIST", true, ended_tag)
    ∷ (codes "EXT-X-INDEPENDENT-SEGMENTS", true, independent_tag)
    ∷ (codes "EXT-X-I-FRAMES-ONLY", true, frames_tag)
    ∷ (codes "EXT-X-MEDIA", false, master_tag)
    ∷ (codes "EXT-X-STREAM-INF", false, master_tag)
    ∷ (codes "EXT-X-I-FRAME-STREAM-INF", false, master_tag)
    ∷ (codes "EXT-X-SESSION-DATA", false, master_tag)
    ∷ (codes "EXT-X-SESSION-KEY", false, master_tag) ∷ []

abbrev pub name_found : Bool → Option (List ℕ × Bool × Name) → Name
name_found colon None = unknown_tag
name_found colon (Some (text, flag, name)) = if flag && colon then unknown_tag else name

abbrev pub name_of : List ℕ → Bool → Name
name_of text colon = name_found colon (find (λ (row : List ℕ × Bool × Name). bytes_eq text row.0) tag_names)

-- ---- what a line says after the lines before it, or its first fault (4.3: of the tags of a media playlist, which of
-- them may repeat, and where they may stand)

abbrev pub is_set : {A : Type 0} → (Said → Option A) → List Said → Bool
is_set answer before = is_some (latest answer before)

abbrev pub has : (Said → Bool) → List Said → Bool
has test before = list_any test before

abbrev pub passes : ℕ → Bool
passes n = nat_le (2 ^ 64) n

-- at most so many formats are in force after this line
abbrev pub within_formats : Reader → List Said → Said → Outcome Said
within_formats reader before said =
    refuse_if (over reader.formats (length (keys_at (said ∷ before)))) fault.TooMany (Ok said)

-- an AES-128 key over an EXT-X-MAP has to state its IV (4.3.2.5)
abbrev pub key_needs_iv : Key → Bool
key_needs_iv k = bytes_eq k.method (codes "AES-128") && is_none k.iv

abbrev pub with_ivs : List Said → Said → Outcome Said
with_ivs before said = refuse_if (list_any key_needs_iv (keys_at before)) fault.MapWithoutIv (Ok said)

abbrev pub said_by_tag : Reader → Parts → List Said → Name → List ℕ → Outcome Said
said_by_tag reader base before version_tag rest =
    refuse_if (is_set the_version before) fault.Repeated (version_of rest >>= λ n. Ok (version n))
said_by_tag reader base before target_tag rest =
    refuse_if (is_set the_target before) fault.Repeated (number_said rest >>= λ n. Ok (target n))
said_by_tag reader base before sequence_tag rest =
    refuse_if (is_set the_sequence before) fault.Repeated
    (refuse_if (has is_media before) fault.Misplaced (number_said rest >>= λ n. Ok (sequence n)))
said_by_tag reader base before discontinuity_sequence_tag rest =
    refuse_if (is_set the_discontinuity_sequence before) fault.Repeated
    (refuse_if (has is_media before || has is_discontinuity before) fault.Misplaced
    (number_said rest >>= λ n. Ok (discontinuity_sequence n)))
said_by_tag reader base before type_tag rest =
    refuse_if (is_set the_type before) fault.Repeated (playlist_type_of rest >>= λ kind. Ok (playlist_type kind))
said_by_tag reader base before ended_tag rest = refuse_if (has is_ended before) fault.Repeated (Ok ended)
said_by_tag reader base before independent_tag rest = Ok independent
said_by_tag reader base before frames_tag rest = Err fault.IFramesOnly
said_by_tag reader base before master_tag rest = Err fault.MasterPlaylist
said_by_tag reader base before duration_tag rest = duration_said rest
said_by_tag reader base before byte_range_tag rest = byte_range_of rest >>= λ r. Ok (byte_range r.0 r.1)
said_by_tag reader base before discontinuity_tag rest =
    refuse_if (passes (discontinuity_at before + 1)) fault.BadValue (Ok discontinuity)
said_by_tag reader base before key_tag rest = key_said reader base rest >>= within_formats reader before
said_by_tag reader base before init_section_tag rest = init_section_said reader base rest >>= with_ivs before
said_by_tag reader base before time_tag rest = or_fault fault.BadTime (instant_of rest) >>= λ t. Ok (time t)
said_by_tag reader base before date_range_tag rest = date_range_said reader rest
said_by_tag reader base before unknown_tag rest = Ok nothing

abbrev pub said_by_uri : Reader → Parts → List Said → List ℕ → Outcome Said
said_by_uri reader base before reference =
    refuse_if (over reader.segments (count is_media before + 1)) fault.TooMany
    (refuse_if (is_none (own_duration before)) fault.NoDuration
    (refuse_if (passes (media_sequence_at before)) fault.BadValue
    (uri_of base reference >>= λ uri. byte_range_at before uri >>= λ r. Ok (media uri))))

abbrev pub said_by_kind : Reader → Parts → List Said → Kind → Outcome Said
said_by_kind reader base before ignored = Ok nothing
said_by_kind reader base before (uri reference) = said_by_uri reader base before reference
said_by_kind reader base before (tag name rest colon) = said_by_tag reader base before (name_of name colon) rest

abbrev pub said_by : Reader → Parts → List Said → List ℕ → Outcome Said
said_by reader base before line =
    refuse_if (has_control line) fault.Control (said_by_kind reader base before (kind_of line))

-- ---- the whole text

-- a first fault, and the line on which it stands; 0 if it is one of the text as a whole
abbrev pub Fault : Type 0
Fault = PlaylistFault

abbrev pub at_line : {A B : Type 0} → ℕ → Outcome A → (A → Result B Fault) → Result B Fault
at_line n (Ok x) next = next x
at_line n (Err e) next = Err (record { kind = e; line = n })

-- what the lines say, the last first, or the first fault and its line, where `read` says what one
-- line says after those before it
abbrev pub said_from : (List Said → List ℕ → Outcome Said) → List Said → List (List ℕ) → Result (List Said) Fault
said_from read before [] = Ok before
said_from read before (line ∷ later) =
    at_line (length before + 1) (read before line) (λ said. said_from read (said ∷ before) later)

abbrev pub has_init_section : Segment → Bool
has_init_section s = is_some s.init_section

-- some segments have an initialisation section, and others have none: a rule of this project
abbrev pub are_mixed : List Segment → Bool
are_mixed segments = list_any has_init_section segments && not (list_all has_init_section segments)

-- the first fault of the text as a whole: EXT-X-TARGETDURATION is required (4.3.3.1)
abbrev pub whole_fault : List Said → Option FaultKind
whole_fault said =
    if not (is_set the_target said) then Some fault.NoTarget
    else (if not (has is_media said) then Some fault.NoSegments
    else (if are_mixed (segments_of said) then Some fault.MixedMaps else None))

abbrev pub playlist_of : List Said → Playlist
playlist_of said = record {
  version = unwrap_or (latest the_version said) 1;
  target_duration = unwrap_or (latest the_target said) 0;
  playlist_type = latest the_type said;
  independent_segments = has is_independent said;
  end_list = has is_ended said;
  date_ranges = date_ranges_of said;
  segments = segments_of said;
}

abbrev pub whole : Option FaultKind → List Said → Result Playlist Fault
whole (Some kind) said = Err (record { kind = kind; line = 0 })
whole None said = Ok (playlist_of said)

abbrev pub and_whole : Result (List Said) Fault → Result Playlist Fault
and_whole (Ok said) = whole (whole_fault said) said
and_whole (Err e) = Err e

-- the first line is EXTM3U (4.3.1.1)
abbrev pub of_lines : Reader → Parts → List (List ℕ) → Result Playlist Fault
of_lines reader base [] = Err (record { kind = fault.NoHeader; line = 1 })
of_lines reader base (first ∷ later) =
    if bytes_eq first (codes "#EXTM3U") then and_whole (said_from (said_by reader base) (nothing ∷ []) later)
    else Err (record { kind = fault.NoHeader; line = 1 })

-- what bytes are read as under a base by a reader with these limits, or the first fault: a playlist is UTF-8 (4.1)
abbrev pub reading : Reader → Parts → List ℕ → Result Playlist Fault
reading reader base bytes =
    if not (is_utf8 bytes) then Err (record { kind = fault.NotUtf8; line = 0 })
    else (if over reader.bytes (length bytes) then Err (record { kind = fault.TooLong; line = 0 })
    else of_lines reader base (lines bytes))

-- no limits: the denotation
abbrev pub unlimited : Reader
unlimited = record { bytes = None; attributes = None; formats = None; segments = None }

-- the limits of this reader
abbrev pub limited : Reader
limited = record {
  bytes = Some 4194304;
  attributes = Some 64;
  formats = Some 16;
  segments = Some 10000;
}

-- the bytes denote this playlist under the base
abbrev pub Denotes : Parts → List ℕ → Playlist → Type 0
Denotes base bytes playlist = reading unlimited base bytes ≡ Ok playlist
