-- How what a line says is written (RFC 8216, section 4.3).
use Rattle.std.specs.Prelude.{ℕ, true, false, List, [], ◌∷◌, ◌++◌, codes, Option, Some, None, bytes_eq, if◌then◌else◌}
use Rattle.std.specs.Fmt.{decimal}
use Rattle.spec_words.specs.Bytes.{comma, digit_zero, at_sign, small_x}
use Rattle.fixed_duration.specs.Duration.{duration_text}
use Rattle.attr_list.specs.Attributes.{Pair, attributes_text}
use Rattle.playlist_model.specs.declared.PlaylistKind.{PlaylistKind}
use Rattle.playlist_model.specs.declared.PlaylistKind.TheVariants.{Event, Vod}
use Rattle.playlist_model.specs.declared.Key.{Key}
use Rattle.playlist_model.specs.declared.ByteRange.{ByteRange}
use Rattle.playlist_model.specs.Said.{Said, nothing, version, target, sequence, discontinuity_sequence, playlist_type, ended, independent, duration, byte_range, discontinuity, no_keys, key, init_section, time, date_range, media}
use Rattle.date_times.specs.Times.{time_text}
use Rattle.date_times.specs.Digits.{fixed_digits}

abbrev pub byte_range_text : ℕ → ℕ → List ℕ
byte_range_text length offset = decimal length ++ at_sign ∷ decimal offset

-- ---- attributes (4.2)

abbrev pub unquoted_pair : List ℕ → List ℕ → Pair
unquoted_pair name value = record { name = name; value = value; quoted = false }

abbrev pub in_quotes : List ℕ → List ℕ → Pair
in_quotes name value = record { name = name; value = value; quoted = true }

-- `0x` and 32 digits
abbrev pub iv_text : ℕ → List ℕ
iv_text iv = digit_zero ∷ small_x ∷ fixed_digits 16 32 iv

abbrev pub iv_pairs : Option ℕ → List Pair
iv_pairs None = []
iv_pairs (Some iv) = unquoted_pair (codes "IV") (iv_text iv) ∷ []

-- the format `identity` goes without saying
abbrev pub format_pairs : List ℕ → List Pair
format_pairs format = if bytes_eq format (codes "identity") then [] else in_quotes (codes "KEYFORMAT") format ∷ []

-- the attributes of a key tag that have a meaning here (4.3.2.4)
abbrev pub own_pairs : Key → List Pair
own_pairs k = unquoted_pair (codes "METHOD") k.method ∷ in_quotes (codes "URI") k.uri ∷ (iv_pairs k.iv ++ format_pairs k.format)

abbrev pub part_pairs : Option ByteRange → List Pair
part_pairs None = []
part_pairs (Some part) = in_quotes (codes "BYTERANGE") (byte_range_text part.length part.offset) ∷ []

-- the attributes of a map tag (4.3.2.5)
abbrev pub init_section_pairs : List ℕ → Option ByteRange → List Pair
init_section_pairs uri part = in_quotes (codes "URI") uri ∷ part_pairs part

-- ---- lines

abbrev pub written_playlist_type : PlaylistKind → List ℕ
written_playlist_type Event = codes "EVENT"
written_playlist_type Vod = codes "VOD"

abbrev pub offset_text : Option ℕ → List ℕ
offset_text None = []
offset_text (Some offset) = at_sign ∷ decimal offset

-- a key's other attributes stand as they are after these
abbrev pub key_text : Key → List ℕ
key_text k = attributes_text (own_pairs k) ++ k.other_attributes

-- a date range's attributes stand as they are (4.3.2.7)
abbrev pub date_range_line : List ℕ → List ℕ
date_range_line text = codes "#EXT-X-DATERANGE:" ++ text

-- the line that says this
abbrev pub spelled : Said → List ℕ
spelled nothing = []
spelled (version n) = codes "#EXT-X-VERSION:" ++ decimal n
spelled (target n) = codes "#EXT-X-TARGETDURATION:" ++ decimal n
spelled (sequence n) = codes "#EXT-X-MEDIA-SEQUENCE:" ++ decimal n
spelled (discontinuity_sequence n) = codes "#EXT-X-DISCONTINUITY-SEQUENCE:" ++ decimal n
spelled (playlist_type kind) = codes "#EXT-X-PLAYLIST-TYPE:" ++ written_playlist_type kind
spelled ended = codes "#EXT-X-ENDLIST"
spelled independent = codes "#EXT-X-INDEPENDENT-SEGMENTS"
spelled (duration nanos title) = codes "#EXTINF:" ++ (duration_text nanos ++ comma ∷ title)
spelled (byte_range length offset) = codes "#EXT-X-BYTERANGE:" ++ (decimal length ++ offset_text offset)
spelled discontinuity = codes "#EXT-X-DISCONTINUITY"
spelled no_keys = codes "#EXT-X-KEY:METHOD=NONE"
spelled (key k) = codes "#EXT-X-KEY:" ++ key_text k
spelled (init_section uri part) = codes "#EXT-X-MAP:" ++ attributes_text (init_section_pairs uri part)
spelled (time t) = codes "#EXT-X-PROGRAM-DATE-TIME:" ++ time_text t
spelled (date_range r) = date_range_line r.attributes
spelled (media uri) = uri
